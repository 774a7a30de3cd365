-- The first member of a set is its lowest; the last of the first numbers of a list, and the greatest of them. Assumes nothing.
use Rattle.std.proofs.Common.{◌≡◌, refl, sym, ap, ◌∙◌, Bool, true, false, ℕ, zero, suc, ◌+◌, ◌-◌, ◌^◌, ◌<◌, ◌≤◌}
use Rattle.std.proofs.Common.{max, List, [], ◌∷◌, ◌++◌, length, map, take, arith, add-one}
use Rattle.std.specs.List.{fold}
use Rattle.std.proofs.lemmas.List.Sums.{fold_more}
use Rattle.rules.specs.Basics.{at, most}
use Rattle.jobset.specs.declared.Set.{Set}
use Rattle.jobset.specs.Sets.{members, without, is_empty, lowest}
use Rattle.jobset.specs.Members.{turn, end}
use Rattle.std.proofs.lemmas.List.{length_push, length-take-le, take_at, take-take, get_or_push, get_or-take}

-- a set with a first member has it as its lowest
pub first-lowest : (S : Set) (i : ℕ) (l : List ℕ) → S.bits < 2 ^ 64 → members S ≡ i ∷ l → (i ≡ lowest S) × (is_empty S ≡ false)
first-lowest S i l h e = go (is_empty S) refl
  where
    go : (b : Bool) → b ≡ is_empty S → (i ≡ lowest S) × (is_empty S ≡ false)
    go true z = let n = (end S true z refl).no-members in cc
    go false z = let f = (turn S false (lowest S) h z refl refl).first in ((cc), sym z)

-- a set with no member is empty
pub none-empty : (S : Set) → S.bits < 2 ^ 64 → members S ≡ [] → is_empty S ≡ true
none-empty S h e = go (is_empty S) refl
  where
    go : (b : Bool) → b ≡ is_empty S → is_empty S ≡ true
    go true z = sym z
    go false z = let f = (turn S false (lowest S) h z refl refl).first in cc

-- the members behind the first are those of the set but its lowest
pub rest-members : (S : Set) (i : ℕ) (l : List ℕ) → S.bits < 2 ^ 64 → members S ≡ i ∷ l
    → (l ≡ members (without S (lowest S))) × ((without S (lowest S)).bits < 2 ^ 64)
rest-members S i l h e =
    let t = turn S false (lowest S) h (sym (first-lowest S i l h e).1) refl refl in
    let f = t.first in
    ((cc), omega (arith, t.less, h))

-- the last of the first n numbers, and those before it
pub last-pushed : (row xs : List ℕ) (n x : ℕ) → n ≤ length row → take n row ≡ xs ++ x ∷ [] → (0 < n) × (xs ≡ take (n - 1) row) × (x ≡ at row (n - 1))
last-pushed row xs n x h e =
    let l : length xs + 1 ≡ n = sym (length_push xs x) ∙ ap length (sym e) ∙ length-take-le n row h in
    let k : length xs ≡ n - 1 = omega arith in (
      omega arith,
      sym (take_at xs (x ∷ []) (n - 1) k) ∙ ap (take (n - 1)) (sym e) ∙ take-take (n - 1) n row (omega arith),
      sym (get_or_push xs x 0 (n - 1) k) ∙ ap (λ (ys : List ℕ). at ys (n - 1)) (sym e) ∙ get_or-take n row (n - 1) 0 (omega arith),
    )

-- each number as it is
pub map-same : (xs : List ℕ) → map (λ x. x) xs ≡ xs
map-same [] = refl
map-same (x ∷ xs) = ap (λ (ys : List ℕ). x ∷ ys) (map-same xs)

-- the greatest of the first n numbers
pub fold-most : (xs : List ℕ) (n : ℕ) → n ≤ length xs → fold (λ a x. max a x) 0 (take n xs) ≡ most (at xs) n
unfolding most
fold-most xs zero h = refl
fold-most xs (suc n) h =
    let e = fold_more (λ (a x : ℕ). max a x) 0 xs n 0 (omega arith) in
    rw add-one at e ∙ omega (arith, fold-most xs n (omega arith))
