-- What a run over a range says of a test. Assumes nothing.
use Rattle.std.specs.Prelude.{◌≡◌, Bool, true, false, List, ◌∷◌, ℕ, zero, suc, ◌<◌, length}
use Rattle.std.specs.Bool.{MatchBool}
use Rattle.std.specs.List.{AllWithin, HoldsAt, range_with_len}
use Rattle.std.proofs.Common.{refl, ap, ◌∙◌, add-one}
use Rattle.rules.specs.Basics.{all, range}
use Rattle.fields.proofs.Runs.{all_by}

-- the range of the program is that of the rules
ranges-are : (n i : ℕ) → range_with_len i n ≡ range n i
unfolding range
ranges-are zero i = refl
ranges-are (suc n) i = ap (λ (xs : List ℕ). i ∷ xs) (ap (λ (j : ℕ). range_with_len j n) (add-one i) ∙ ranges-are n (suc i))

-- so of the numbers below n
pub all-below : (p : ℕ → Bool) (n : ℕ) (r : Bool)
    → MatchBool r (AllWithin (λ x. p x ≡ true) (range_with_len 0 n) 0 (length (range_with_len 0 n)))
    ((k : ℕ) × (k < length (range_with_len 0 n)) × HoldsAt (λ x. p x ≡ false) (range_with_len 0 n) k)
    → r ≡ all p (range n 0)
all-below p n r h = all_by p r (range_with_len 0 n) h ∙ ap (all p) (ranges-are n 0)
