-- A row of places by rising job number, and the sets that a counter takes of it: the k-th of m places has the bit m - 1 - k, so the
-- greater of two numbers has the lowest job that is in one of the sets alone. Assumes nothing.
-- Its definitions: specs/Rows.antt.
use Rattle.std.specs.Prelude.{◌≡◌, Bool, length}
use Rattle.std.proofs.Math.Path.{refl, ap}
use Rattle.std.proofs.Common.{sym, ◌∙◌, arith}
use Rattle.std.proofs.Math.Bool.{true, false}
use mathlib.Core.List.{List, [], ◌∷◌}
use Prim.Native.Nat.{ℕ, zero, suc, ◌^◌, ◌≤◌, ◌<◌}
use Rattle.std.proofs.Math.Decide.{ℕ_discrete, dec_lt}
use Rattle.rules.specs.Basics.{choose, filter, Distinct}
use Rattle.jobset.specs.declared.Set.{Set}
use Rattle.jobset.specs.Sets.{member}
use Rattle.jobset.specs.Membership.{set-ext}
use Rattle.jobset.specs.Tests.{absent}
use Rattle.places.specs.Rows.{bit-low, chosen, chosen-distinct, number_for, number-for-lt, chosen-number, places_of, Loose, is_try, is-try, picks, tried_below}

-- ---- the places of a number

-- no more than the row, and as many only with all its bits
chosen-few : (row : List ℕ) (x : Set) → length (chosen row x) ≤ length row
unfolding chosen choose
chosen-few [] x = omega arith
chosen-few (q ∷ row) x = go (member x (length row)) (chosen-few row x)
  where
    go : (b : Bool) → length (chosen row x) ≤ length row → length (choose b (q ∷ chosen row x) (chosen row x)) ≤ suc (length row)
    go true r = omega arith
    go false r = omega arith

chosen-all : (row : List ℕ) (x : Set) → length (chosen row x) ≡ length row → ((k : ℕ) → k < length row → member x k ≡ true) × (chosen row x ≡ row)
unfolding chosen choose
chosen-all [] x e = (λ k l. absurd (omega arith), refl)
chosen-all (q ∷ row) x e = go (member x (length row)) refl e (chosen-all row x)
  where
    bits : ((k : ℕ) → k < length row → member x k ≡ true) → member x (length row) ≡ true → (k : ℕ) → k < suc (length row) → Dec (k ≡ length row)
        → member x k ≡ true
    bits f m k l (yes z) = rw z m
    bits f m k l (no z) = f k (omega arith)

    go : (b : Bool) → member x (length row) ≡ b → length (choose b (q ∷ chosen row x) (chosen row x)) ≡ suc (length row)
        → (length (chosen row x) ≡ length row → ((k : ℕ) → k < length row → member x k ≡ true) × (chosen row x ≡ row))
        → ((k : ℕ) → k < suc (length row) → member x k ≡ true) × (choose b (q ∷ chosen row x) (chosen row x) ≡ q ∷ row)
    go true m h r = let w = r (omega arith) in (λ k l. bits w.0 m k l (ℕ_discrete k (length row)), ap (λ (l : List ℕ). q ∷ l) w.1)
    go false m h r = absurd (omega (arith, chosen-few row x))

-- ---- a state that does not branch

filter-all : (row : List ℕ) → filter (λ p. true) row ≡ row
unfolding filter choose
filter-all [] = refl
filter-all (p ∷ row) = ap (λ (l : List ℕ). p ∷ l) (filter-all row)

module _ (near : ℕ → Set) (row : List ℕ) (most : ℕ) where
  -- where no number passes there is no set, and where one passes there is one
  none_below : (b : ℕ) → ((x : ℕ) → x < b → is_try near most (picks row x) ≡ true → ⊥) → tried_below near row most b ≡ []
  unfolding tried_below choose
  none_below zero f = refl
  none_below (suc b) f = rw (absent (is_try near most (picks row b)) (f b (omega arith)), none_below b (λ x l. f x (omega arith))) refl

  sole-below : (n b : ℕ) → n < b → is_try near most (picks row n) ≡ true → ((x : ℕ) → x < b → is_try near most (picks row x) ≡ true → x ≡ n)
      → tried_below near row most b ≡ places_of (picks row n) ∷ []
  unfolding tried_below choose
  sole-below n zero l e f = absurd (omega arith)
  sole-below n (suc b) l e f = go (ℕ_discrete n b) (sole-below n b) (none_below b)
    where
      go : Dec (n ≡ b) → (n < b → is_try near most (picks row n) ≡ true → ((x : ℕ) → x < b → is_try near most (picks row x) ≡ true → x ≡ n)
          → tried_below near row most b ≡ places_of (picks row n) ∷ [])
          → (((x : ℕ) → x < b → is_try near most (picks row x) ≡ true → ⊥) → tried_below near row most b ≡ [])
          → choose (is_try near most (picks row b)) (places_of (picks row b) ∷ tried_below near row most b) (tried_below near row most b) ≡ places_of (picks row n) ∷
          []
      go (yes z) r s =
          let t : is_try near most (picks row b) ≡ true = ap (λ (k : ℕ). is_try near most (picks row k)) (sym z) ∙ e in
          rw (t, s (λ x k p. omega (arith, f x (omega arith) p)), z) refl
      go (no z) r s = rw (absent (is_try near most (picks row b)) (λ t. z (sym (f b (omega arith) t))), r (omega arith) e (λ x k p. f x (omega arith) p)) refl

-- where all the row fits, it is the only set
pub whole_row : (near : ℕ → Set) (row : List ℕ) → Distinct row → Loose near row → tried_below near row (length row) (2 ^ length row) ≡ places_of row ∷ []
whole_row near row d loose = sole-below near row (length row) n (2 ^ length row) (number-for-lt (λ p. true) row)
    (rw full ((is-try near (length row) row d).1 (refl, loose))) only ∙ ap (λ (l : List ℕ). places_of l ∷ []) full
  where
    n : ℕ
    n = (number_for (λ p. true) row).bits

    full : picks row n ≡ row
    full = chosen-number (λ p. true) row ∙ filter-all row

    bits : (x : ℕ) → length (picks row x) ≡ length row → (k : ℕ) → k < length row → member (record { bits = x }) k ≡ true
    bits x e = (chosen-all row (record { bits = x }) e).0

    only : (x : ℕ) → x < 2 ^ length row → is_try near (length row) (picks row x) ≡ true → x ≡ n
    only x l t = ap (λ (S : Set). S.bits) (set-ext (record { bits = x }) (record { bits = n }) (λ k. same k (dec_lt k (length row))))
      where
        same : (k : ℕ) → Dec (k < length row) → member (record { bits = x }) k ≡ member (record { bits = n }) k
        same k (yes u) = bits x ((is-try near (length row) (picks row x) (chosen-distinct row (record { bits = x }) d)).0 t).0 k u
            ∙ sym (bits n (ap length full) k u)
        same k (no u) = absent (member (record { bits = x }) k) (λ m. u (bit-low (record { bits = x }) (length row) k l m))
            ∙ sym (absent (member (record { bits = n }) k) (λ m. u (bit-low (record { bits = n }) (length row) k (number-for-lt (λ p. true) row) m)))
