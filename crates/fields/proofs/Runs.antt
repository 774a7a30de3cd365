-- What a run over all entries of a list says of a test. Assumes nothing.
use Rattle.std.specs.Prelude.{◌≡◌, Bool, true, false, List, [], ◌∷◌, ℕ, zero, suc, ◌<◌, length}
use Rattle.std.specs.Bool.{MatchBool}
use Rattle.std.specs.List.{AllWithin, HoldsAt}
use Rattle.std.proofs.Common.{refl, sym, arith}
use Rattle.std.proofs.Math.Bool.{and-false}
use Rattle.rules.specs.Basics.{at, all}

-- a test that each entry passes, and one that some entry fails
all-pass : (p : ℕ → Bool) (xs : List ℕ) → ((k : ℕ) → k < length xs → p (at xs k) ≡ true) → all p xs ≡ true
unfolding all
all-pass p [] h = refl
all-pass p (x ∷ xs) h = rw (h 0 (omega arith)) (all-pass p xs (λ k l. h (suc k) (omega arith)))

one-fails : (p : ℕ → Bool) (xs : List ℕ) (k : ℕ) → k < length xs → p (at xs k) ≡ false → all p xs ≡ false
unfolding all
one-fails p [] k l h = absurd (omega arith)
one-fails p (x ∷ xs) zero l h = rw h refl
one-fails p (x ∷ xs) (suc k) l h = rw (one-fails p xs k (omega arith) h) (and-false (p x))

-- what a run over the entries finds, as the test of all
pub all_by : (p : ℕ → Bool) (r : Bool) (xs : List ℕ)
    → MatchBool r (AllWithin (λ x. p x ≡ true) xs 0 (length xs)) ((k : ℕ) × (k < length xs) × HoldsAt (λ x. p x ≡ false) xs k) → r ≡ all p xs
all_by p true xs h = sym (all-pass p xs (λ k l. h k 0 (omega arith) l))
all_by p false xs h = sym (one-fails p xs h.0 h.1 (h.2 0))
