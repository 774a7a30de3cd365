-- The search slot by slot, over any step: the sets of jobs that a slot tries, in their order. Assumes nothing.
use Rattle.std.specs.Prelude.{◌≡◌, ◌↔◌, Bool, ◌&&◌, ℕ, zero, suc, ◌+◌, ◌≤◌, ◌<◌, length, T, ltb}
use mathlib.Core.List.{List, [], ◌∷◌, Memᴰ}
use Rattle.std.proofs.Math.Option.{Option, none, some}
use Rattle.std.proofs.Common.{arith}
use Rattle.rules.specs.Basics.{choose, at, all}
use Rattle.laws.specs.Tests.{T_and, T-ltb, by-choice}
use Rattle.laws.specs.Preference.{Best}
use Rattle.dominance.specs.Placing.{place}
use Rattle.dominance.specs.Tries.{first}

-- a step: the sets that slot s tries in the state t, the jobs before s placed
abbrev pub Step : Type 0
Step = ℕ → List ℕ → List (List ℕ)

-- every job is placed before s
unfoldable pub all_placed : ℕ → List ℕ → Bool
all_placed s t = all (λ x. ltb x s) t

pub all-placed-is : (s : ℕ) (t : List ℕ) → T (all_placed s t) ↔ ((i : ℕ) → i < length t → at t i < s)
unfolding all_placed all
all-placed-is s [] = (λ h i l. absurd (omega arith), λ f. tt)
all-placed-is s (x ∷ t) = step (all-placed-is s t)
  where
    step : T (all_placed s t) ↔ ((i : ℕ) → i < length t → at t i < s) → T (ltb x s && all_placed s t) ↔ ((i : ℕ) → i < suc (length t) → at (x ∷ t) i < s)
    step r = (
      λ h i l. go ((T_and (ltb x s) (all_placed s t)).0 h) i l,
      λ f. (T_and (ltb x s) (all_placed s t)).1 ((T-ltb x s).1 (f 0 (omega arith)), r.1 (λ i l. f (suc i) (omega arith))),
    )
      where
        go : T (ltb x s) × T (all_placed s t) → (i : ℕ) → i < suc (length t) → at (x ∷ t) i < s
        go h zero l = (T-ltb x s).0 h.0
        go h (suc i) l = r.0 h.1 i (omega arith)

-- with k slots left from slot s on: the sets of slot s in turn, until one leads to a start list
unfoldable pub search : Step → ℕ → ℕ → List ℕ → Option (List ℕ)
search step zero s t = choose (all_placed s t) (some t) none
search step (suc k) s t =
    let tried = first (λ S. search step k (suc s) (place s S t)) (step s t) in
    choose (all_placed s t) (some t) tried

-- what makes a step right for n jobs and makespan C, whatever continues after it: state s t says that t is a state before slot s, and
-- family s t holds of the lists that it stands for. (A cap on the jobs of a slot is a step, a state and a family of its own)
pub record Right (n C : ℕ) (state : ℕ → List ℕ → Type 0) (family : ℕ → List ℕ → List ℕ → Type 0) (step : Step) : Type 0 where
  -- a state where all is placed stands for its list
  pub leaf : (s : ℕ) (t : List ℕ) → s ≤ C → state s t → T (all_placed s t) → Best n (family s t) (some t)
  -- after the last slot all is placed, or the family is empty
  pub over : (t u : List ℕ) → state C t → family C t u → T (all_placed C t)
  -- the first result of the sets is the best of the family, if that of each set is the best of its own
  pub slot : (s : ℕ) (t : List ℕ) → s < C → state s t → (f : List ℕ → Option (List ℕ))
      → ((S : List ℕ) → Memᴰ S (step s t) → state (suc s) (place s S t) → Best n (family (suc s) (place s S t)) (f S))
      → Best n (family s t) (first f (step s t))

-- then the search finds the best list of each family
pub search-best : (n C : ℕ) (state : ℕ → List ℕ → Type 0) (family : ℕ → List ℕ → List ℕ → Type 0) (step : Step) → Right n C state family step
    → (k s : ℕ) (t : List ℕ) → s + k ≡ C → state s t → Best n (family s t) (search step k s t)
unfolding search
search-best n C state family step r zero s t e st =
    by-choice (Best n (family s t)) (all_placed s t) (r.leaf s t (omega arith) st)
    (λ h u g. let q : s ≡ C = omega arith in h (rw q (r.over t u (rw q at st) (rw q at g))))
search-best n C state family step r (suc k) s t e st =
    by-choice (Best n (family s t)) (all_placed s t) (r.leaf s t (omega arith) st)
    (λ h. r.slot s t (omega arith) st (λ S. search step k (suc s) (place s S t))
    (λ S m z. search-best n C state family step r k (suc s) (place s S t) (omega arith) z))
