-- The chains over a list as the words of the rules: a test of each entry, the largest, and whether two lists are the same. Assumes nothing.
use Rattle.std.specs.Prelude.{◌≡◌, Bool, List, [], ◌∷◌, ◌&&◌, ℕ, max, fold}
use Rattle.std.specs.List.{list_all, reduce}
use Rattle.std.specs.Option.{unwrap_or}
use Rattle.std.specs.Cmp.Lexicographic.{pointwise}
use Rattle.std.proofs.Common.{refl, ap, ◌∙◌, arith, nat_eq}
use Rattle.rules.specs.Basics.{all, largest}
use Rattle.rules.specs.Table.{same_name}

-- whether p holds of each
pub all-is : {A : Type 0} (p : A → Bool) (l : List A) → list_all p l ≡ all p l
unfolding all
all-is p [] = refl
all-is p (x ∷ l) = ap (λ (r : Bool). p x && r) (all-is p l)

-- the largest
fold-max : (m : ℕ) (l : List ℕ) → fold max m l ≡ max m (largest l)
unfolding largest
fold-max m [] = omega arith
fold-max m (x ∷ l) = fold-max (max m x) l ∙ omega arith

pub largest_is : (l : List ℕ) → unwrap_or (reduce max l) 0 ≡ largest l
unfolding largest
largest_is [] = refl
largest_is (x ∷ l) = fold-max x l

-- byte by byte
pub same-is : (a b : List ℕ) → pointwise nat_eq a b ≡ same_name a b
unfolding same_name
same-is [] [] = refl
same-is [] (y ∷ b) = refl
same-is (x ∷ a) [] = refl
same-is (x ∷ a) (y ∷ b) = ap (λ (r : Bool). nat_eq x y && r) (same-is a b)
