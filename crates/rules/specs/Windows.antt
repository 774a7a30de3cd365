-- Windows and width (document 01, "The rules a table keeps"; document 000, section 3.2). Assumes nothing.
use Rattle.std.specs.Prelude.{◌≡◌, ◌≢◌, Bool, ◌&&◌, List, [], ◌∷◌, map, ℕ, zero, suc, ◌+◌, ◌≤◌, ◌<◌, max, replicate, eqb, ℤ, pos, ◌+ℤ◌, ◌-ℤ◌, ◌≤ℤ◌, ◌<ℤ◌}
use Rattle.std.specs.Int.Signed.{le_z}
use Rattle.rules.specs.Basics.{choose, at, imp, tabulate, count, most}
use Rattle.rules.specs.Needs.{Need, Gives}
use Rattle.rules.specs.Program.{all₂}

-- ---- the formulas as printed

-- v is the value of formula (1) at job i (releases are never negative): j is a giver with the latest release, k another as late
pub record Value1 (needs : List Need) (r : ℕ → ℕ) (i v : ℕ) : Type 0 where
  pub no-giver : ((g : ℕ) → Gives needs g i → ⊥) → v ≡ 0
  pub lone : (j : ℕ) → Gives needs j i → ((g : ℕ) → Gives needs g i → g ≢ j → r g < r j) → v ≡ r j + 1
  pub tied : (j k : ℕ) → Gives needs j i → Gives needs k i → j ≢ k → r j ≡ r k → ((g : ℕ) → Gives needs g i → r g ≤ r j) → v ≡ r j + 2

-- formula (1) holds of the releases r at job i
abbrev pub Formula1 : List Need → (ℕ → ℕ) → ℕ → Type 0
Formula1 needs r i = Value1 needs r i (r i)

-- formula (2) holds of the deadlines d at job i, over signed whole numbers, with the limit L for the upper bound: j is a taker with the earliest deadline
pub record Formula2 (needs : List Need) (L : ℕ) (d : ℕ → ℤ) (i : ℕ) : Type 0 where
  pub no-taker : ((k : ℕ) → Gives needs i k → ⊥) → d i ≡ pos L
  pub lone : (j : ℕ) → Gives needs i j → ((k : ℕ) → Gives needs i k → k ≢ j → d j <ℤ d k) → d i ≡ d j -ℤ pos 1
  pub tied : (j k : ℕ) → Gives needs i j → Gives needs i k → j ≢ k → d j ≡ d k → ((g : ℕ) → Gives needs i g → d j ≤ℤ d g) → d i ≡ d j -ℤ pos 2

-- ---- their values

-- the largest r g + 1 of the givers g of i, 0 where it has none
unfoldable pub latest : (ℕ → ℕ) → List Need → ℕ → ℕ
latest r [] i = 0
latest r (d ∷ ds) i = max (choose (eqb d.1 i) (suc (r d.0)) 0) (latest r ds i)

-- at most one giver g of i has r g + 1 = m
unfoldable pub untied : (ℕ → ℕ) → List Need → ℕ → ℕ → Bool
untied r needs i m =
    all₂ (λ d e. imp (eqb d.1 i) (imp (eqb e.1 i) (imp (eqb (suc (r d.0)) m) (imp (eqb (suc (r e.0)) m) (eqb d.0 e.0))))) needs

-- the value of formula (1) at job i, by the releases r of its givers
unfoldable pub release_by : (ℕ → ℕ) → List Need → ℕ → ℕ
release_by r needs i = let m = latest r needs i in choose (untied r needs i m) m (suc m)

-- the releases of n jobs after f rounds of the formula; n rounds are enough (law `release-formula`)
unfoldable pub releases : ℕ → List Need → ℕ → List ℕ
releases n needs zero = replicate n 0
releases n needs (suc f) = let r = releases n needs f in tabulate (release_by (at r) needs) n 0

abbrev pub release : ℕ → List Need → ℕ → ℕ
release n needs i = at (releases n needs n) i

-- giver and taker exchanged
unfoldable pub swap : Need → Need
swap d = (d.1, d.0)

-- how many slots must follow job i: its release in the reversed needs
abbrev pub tail : ℕ → List Need → ℕ → ℕ
tail n needs i = release n (map swap needs) i

-- ---- the width

-- "A window holds slot s when r is at most s and s + 1 at most d"
abbrev pub Holds : ℤ → ℤ → ℕ → Type 0
Holds r d s = (r ≤ℤ pos s) × ((pos s +ℤ pos 1) ≤ℤ d)

unfoldable pub holdsb : (ℕ → ℕ) → (ℕ → ℤ) → ℕ → ℕ → Bool
holdsb r d s i = le_z (pos (r i)) (pos s) && le_z (pos s +ℤ pos 1) (d i)

-- "the largest number of windows that hold one slot from 0 to limit - 1", of windows (r i, d i)
unfoldable pub width_of : ℕ → (ℕ → ℕ) → (ℕ → ℤ) → ℕ → ℕ
width_of n r d L = most (λ s. count (holdsb r d s) n) L

-- the width of a file with n jobs and limit L, one more than the paper's pathwidth; the deadline is the limit less the tail (laws `deadline-formula`,
-- `deadline-only`)
unfoldable pub width : ℕ → List Need → ℕ → ℕ
width n needs L =
    let r = releases n needs n in
    let b = releases n (map swap needs) n in
    width_of n (at r) (λ i. pos L -ℤ pos (at b i)) L
