-- Program P of document 000, section 3.1, as printed, and the three sentences of document 01, "The rules a table keeps". Assumes nothing.
use Rattle.std.specs.Prelude.{◌≡◌, Bool, ◌&&◌, List, [], ◌∷◌, ℕ, suc, ◌+◌, ◌≤◌, ◌<◌, length, get_or, leb, eqb}
use Rattle.rules.specs.Basics.{choose, at, imp, all, largest}
use Rattle.rules.specs.Needs.{Need}

-- ---- program P

-- the needs with giver i, and those with taker i: Γ+(i) and Γ-(i), since no need stands twice
unfoldable pub given_by : ℕ → Need → Bool
given_by i d = eqb d.0 i

unfoldable pub taken_by : ℕ → Need → Bool
taken_by i d = eqb d.1 i

-- how many needs pass p: |Γ+(i)|, |Γ-(i)|
unfoldable pub tally : (Need → Bool) → List Need → ℕ
tally p [] = 0
tally p (d ∷ ds) = choose (p d) (suc (tally p ds)) (tally p ds)

-- the sum of the delays x over the needs that pass p; x has an entry for each need
unfoldable pub total : (Need → Bool) → List Need → List ℕ → ℕ
total p [] x = 0
total p (d ∷ ds) [] = 0
total p (d ∷ ds) (v ∷ x) = choose (p d) (v + total p ds x) (total p ds x)

-- the need at index e
abbrev pub nth : List Need → ℕ → Need
nth needs e = get_or needs e (0, 0)

-- inequalities (1) to (4): starts t, delays x, makespan C; in (3) and (4) the 1 stands on the other side
pub record ProgramP (n : ℕ) (needs : List Need) (C : ℕ) (t x : List ℕ) : Type 0 where
  pub starts : length t ≡ n
  pub delays : length x ≡ length needs
  pub zero_one : (e : ℕ) → e < length needs → at x e ≤ 1
  pub line1 : (e : ℕ) → e < length needs → at t (nth needs e).0 + 1 + at x e ≤ at t (nth needs e).1
  pub line2 : (i : ℕ) → i < n → at t i + 1 ≤ C
  pub line3 : (i : ℕ) → i < n → tally (given_by i) needs ≤ 1 + total (given_by i) needs x
  pub line4 : (i : ℕ) → i < n → tally (taken_by i) needs ≤ 1 + total (taken_by i) needs x

-- the start list t satisfies P with makespan C: some delays do
abbrev pub SatisfiesP : ℕ → List Need → ℕ → List ℕ → Type 0
SatisfiesP n needs C t = (x : List ℕ) × ProgramP n needs C t x

-- "The delay of a need is 0 where the taker runs right after the giver, else 1"
unfoldable pub delay : List ℕ → Need → ℕ
delay t d = choose (eqb (at t d.0 + 1) (at t d.1)) 0 1

-- ---- start lists

-- "Slots is the largest start plus one": the makespan
unfoldable pub slots : List ℕ → ℕ
slots t = suc (largest t)

-- "A start list gives each job of the file one start ..; it fits a limit when its slots are at most that": each start is below it
pub record Fits (n C : ℕ) (t : List ℕ) : Type 0 where
  pub len : length t ≡ n
  pub below : (i : ℕ) → i < n → at t i < C

-- the three sentences, over any relation N of giving and any starts τ: "a taker starts at least one slot after its giver;
-- of the takers of one job, at most one starts in the slot right after it; of the givers of one job, at most one runs in the slot right before it"
pub record Kept (N : ℕ → ℕ → Type 0) (τ : ℕ → ℕ) : Type 0 where
  pub later : (g k : ℕ) → N g k → τ g + 1 ≤ τ k
  pub give-one : (g j k : ℕ) → N g j → N g k → τ j ≡ τ g + 1 → τ k ≡ τ g + 1 → j ≡ k
  pub take-one : (i j k : ℕ) → N i k → N j k → τ i + 1 ≡ τ k → τ j + 1 ≡ τ k → i ≡ j

-- every pair of needs
unfoldable pub all₂ : (Need → Need → Bool) → List Need → Bool
all₂ p needs = all (λ d. all (λ e. p d e) needs) needs

-- the three sentences as a test (laws `kept-is`, `program-is`: it says that t satisfies P within its slots)
unfoldable pub keptb : List Need → List ℕ → Bool
keptb needs t =
    all (λ d. leb (at t d.0 + 1) (at t d.1)) needs
    && (all₂ (λ d e. imp (eqb d.0 e.0) (imp (eqb (at t d.1) (at t d.0 + 1)) (imp (eqb (at t e.1) (at t d.0 + 1)) (eqb d.1 e.1)))) needs
    && all₂ (λ d e. imp (eqb d.1 e.1) (imp (eqb (at t d.0 + 1) (at t d.1)) (imp (eqb (at t e.0 + 1) (at t d.1)) (eqb d.0 e.0)))) needs)
