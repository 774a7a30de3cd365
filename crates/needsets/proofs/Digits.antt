-- The digits of an index, written one after the other. Assumes nothing.
use Rattle.std.specs.Prelude.{◌≡◌, List, [], ◌∷◌, ◌++◌, ℕ, suc, ◌+◌, ◌-◌, ◌/◌, ◌%◌, ◌<◌, ◌≤◌, length, take, set}
use Rattle.std.proofs.Common.{sym, ap, ap₂, ◌∙◌, arith, add-one, append_assoc}
use mathlib.Core.List.{append-nil}
use Rattle.std.proofs.Math.Seq.{take-suc-set, take_all}
use Rattle.needsets.specs.Starts.{digits}

-- digit i is written: with the digits of what is left the list is the same
pub digit-turn : (b i rest : ℕ) (l : List ℕ) → length l ≡ 4 → i < 4
    → take (i + 1) (set l i (rest % b)) ++ digits b (4 - (i + 1)) (rest / b) ≡ take i l ++ digits b (4 - i) rest
unfolding digits
digit-turn b i rest l long h =
    let digit = rest % b in
    let behind = digits b (4 - (i + 1)) (rest / b) in
    let e : 4 - i ≡ suc (4 - (i + 1)) = omega arith in
    ap (λ (k : ℕ). take k (set l i digit) ++ behind) (add-one i) ∙ ap (λ (xs : List ℕ). xs ++ behind) (take-suc-set l i digit (omega arith))
    ∙ append_assoc (take i l) (digit ∷ []) behind ∙ ap (λ (k : ℕ). take i l ++ digits b k rest) (sym e)

-- all four are
pub digits-end : (b i rest : ℕ) (l : List ℕ) → length l ≡ 4 → 4 ≤ i → take i l ++ digits b (4 - i) rest ≡ l
unfolding digits
digits-end b i rest l long h =
    let e : 4 - i ≡ 0 = omega arith in
    ap₂ (λ (xs : List ℕ) (k : ℕ). xs ++ digits b k rest) (take_all i l (omega arith)) e ∙ append-nil l
