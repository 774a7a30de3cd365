-- The lines that are written are those of the rules, since the planner gives the fewest slots. Assumes nothing.
use Rattle.std.specs.Prelude.{◌≡◌, Bool, true, false, ℕ, zero, suc, ◌+◌, ◌*◌, ◌^◌, ◌/◌, ◌≤◌, ◌<◌, length, T, eqb}
use Rattle.std.proofs.Math.Path.{refl, sym, ap}
use Rattle.std.proofs.Common.{◌∙◌, arith, eq-eqb, ne_eqb, drop_of_length-le}
use mathlib.Core.List.{List, [], ◌∷◌, ◌++◌, map, append-nil, Memᴰ}
use Rattle.rules.specs.Basics.{choose, at, range, joined}
use Rattle.rules.specs.SmallGates.{needs_of, gateb, gates, fewest, GateLine, gate_line, gate_lines, or_zero, line_numbers, small_gates}
use Rattle.laws.specs.Tests.{T_true, T_not, T-eqb, T-all}
use Rattle.laws.specs.Lists.{filter-mem}
use Rattle.laws.specs.Counting.{range-below}
use Rattle.laws.specs.Writing.{put, put_front, joined-filter, joined-map, joined_same, joined-append}
use Rattle.laws.specs.Fewest.{fewest-some}
use Rattle.laws.specs.SmallFiles.{planner-same}
use Rattle.small.specs.Counts.{all_lines, all-entries}
use Rattle.small.specs.Lines.{agreed_slots, line_slots, line_of, all_agreed}

-- ---- one number

-- the planner gives the same, or something else
pub slots-agree : (planned least : ℕ) → planned ≡ least → planned ≡ agreed_slots planned least
unfolding agreed_slots choose
slots-agree planned least h = rw (eq-eqb planned least h) refl

pub slots-differ : (planned least : ℕ) → (planned ≡ least → ⊥) → 0 ≡ agreed_slots planned least
unfolding agreed_slots choose
slots-differ planned least h = rw (ne_eqb planned least h) refl

module _ (n m : ℕ) where
  -- a number with a line, and one without
  pub line-there : gateb n m ≡ true → line_of n m ≡ n ∷ m ∷ line_slots n m ∷ []
  unfolding line_of choose
  line-there h = rw h refl

  pub line-none : gateb n m ≡ false → line_of n m ≡ []
  unfolding line_of choose
  line-none h = rw h refl

-- where a test decides whether a list is there, it is enough to know the list where it passes
when-passed : {k l : List ℕ} (b : Bool) → (T b → k ≡ l) → choose b k [] ≡ choose b l []
unfolding choose
when-passed true h = h tt
when-passed false h = refl

-- ---- the numbers of n jobs

module _ (n : ℕ) (some-job : 1 ≤ n) (few : n ≤ 4) where
  -- of a set of needs without a circle the planner gives the fewest slots
  agreed : (m : ℕ) → Memᴰ m (gates n) → line_slots n m ≡ or_zero (fewest n (needs_of n m))
  unfolding line_slots
  agreed m w = let same = ap or_zero (planner-same n m some-job (omega arith) w) in sym (slots-agree _ _ same) ∙ same

  -- so the lines are those of the rules
  pub lines_are : joined (line_of n) (range (2 ^ (n * n)) 0) ≡ joined line_numbers (gate_lines n)
  unfolding gate_lines gates line_of line_numbers
  lines_are =
      joined_same (line_of n) (λ m. choose (gateb n m) (line_numbers (gate_line n m)) []) (range (2 ^ (n * n)) 0) same
      ∙ sym (joined-filter (gateb n) (λ m. line_numbers (gate_line n m)) (range (2 ^ (n * n)) 0))
      ∙ sym (joined-map line_numbers (gate_line n) (gates n))
    where
      same : (m : ℕ) → Memᴰ m (range (2 ^ (n * n)) 0) → line_of n m ≡ choose (gateb n m) (line_numbers (gate_line n m)) []
      same m w = when-passed (gateb n m) (λ t. ap (λ (x : ℕ). n ∷ m ∷ x ∷ []) (agreed m (filter-mem (gateb n) (range (2 ^ (n * n)) 0) m w t)))

-- ---- all lines

-- those of one job more than j
abbrev pub lines_of_next : ℕ → List ℕ
lines_of_next j = joined line_numbers (gate_lines (j + 1))

-- 1 to 4 jobs
pub gates-are-all : joined lines_of_next (range 4 0) ≡ joined line_numbers small_gates
unfolding small_gates joined range
gates-are-all = sym (
    joined-append line_numbers (gate_lines 1) (gate_lines 2 ++ (gate_lines 3 ++ gate_lines 4))
    ∙ ap (λ (l : List ℕ). joined line_numbers (gate_lines 1) ++ l) (joined-append line_numbers (gate_lines 2) (gate_lines 3 ++ gate_lines 4)
    ∙ ap (λ (l : List ℕ). joined line_numbers (gate_lines 2) ++ l) (joined-append line_numbers (gate_lines 3) (gate_lines 4)
    ∙ ap (λ (l : List ℕ). joined line_numbers (gate_lines 3) ++ l) (sym (append-nil (joined line_numbers (gate_lines 4))))))
    )

-- they are 1,716 entries
pub all_fit : 0 + length (joined lines_of_next (range 4 0)) ≤ 1716
all_fit = omega (arith, ap length gates-are-all, all-entries)

-- and fill the list
pub list_full : (list₀ list : List ℕ) → length list₀ ≡ 1716 → list ≡ put 0 (joined lines_of_next (range 4 0)) list₀ → list ≡ joined line_numbers small_gates
list_full list₀ list long e =
    let xs = joined line_numbers small_gates in
    e ∙ ap (λ (ys : List ℕ). put 0 ys list₀) gates-are-all ∙ put_front xs list₀ (omega (arith, all-entries))
    ∙ ap (λ (r : List ℕ). xs ++ r) (drop_of_length-le list₀ {i = length xs} (omega (arith, all-entries))) ∙ append-nil xs

-- ---- no line is left out

-- every line has slots
abbrev Slotted : List GateLine → Type 0
Slotted [] = Unit {0}
Slotted (l ∷ ls) = (or_zero l.fewest-slots ≡ 0 → ⊥) × Slotted ls

slotted-append : (ks ls : List GateLine) → Slotted ks → Slotted ls → Slotted (ks ++ ls)
slotted-append [] ls a b = b
slotted-append (k ∷ ks) ls a b = (a.0, slotted-append ks ls a.1 b)

-- those of n jobs have, since a set of needs without a circle has a start list
lines-slotted : (n : ℕ) → Slotted (gate_lines n)
unfolding gate_lines or_zero
lines-slotted n = go (gates n) (λ m w. w)
  where
    go : (ms : List ℕ) → ((m : ℕ) → Memᴰ m ms → Memᴰ m (gates n))
        → Slotted (map (gate_line n) ms)
    go [] h = tt
    go (m ∷ ms) h = (λ e. let w = fewest-some n m (h m (Memᴰ.head refl)) in omega (arith, ap or_zero w.1, e), go ms (λ k w. h k (Memᴰ.tail w)))

-- so the third number of each line is not 0
third-there : (ls : List GateLine) → Slotted ls → (i : ℕ) → i < length ls → at (joined line_numbers ls) (3 * i + 2) ≡ 0 → ⊥
unfolding joined line_numbers
third-there [] s i h e = omega arith
third-there (l ∷ ls) s zero h e = s.0 e
third-there (l ∷ ls) s (suc i) h e =
    let behind : suc (suc (suc (3 * i + 2))) ≡ 3 * suc i + 2 = omega arith in
    third-there ls s.1 i (omega arith) (ap (at (joined line_numbers (l ∷ ls))) behind ∙ e)

pub all-agreed : all_agreed (joined line_numbers small_gates) ≡ true
unfolding all_agreed
all-agreed = (T_true _).0 ((T-all _ (range (length all-numbers / 3) 0)).1 (λ i w.
    let below : i < length small_gates = omega (arith, (range-below (length all-numbers / 3) i).0 w, all-entries, all_lines) in
    (T_not (eqb (at all-numbers (3 * i + 2)) 0)).1 (λ t. third-there small_gates slotted i below ((T-eqb (at all-numbers (3 * i + 2)) 0).0 t))))
  where
    all-numbers : List ℕ
    all-numbers = joined line_numbers small_gates

    slotted : Slotted small_gates
    slotted = unfold small_gates in slotted-append (gate_lines 1) _ (lines-slotted 1)
        (slotted-append (gate_lines 2) _ (lines-slotted 2) (slotted-append (gate_lines 3) _ (lines-slotted 3) (lines-slotted 4)))
