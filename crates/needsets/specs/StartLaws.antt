-- Start lists of four entries, and the ways out of their tests. Assumes nothing.
use Rattle.std.specs.Prelude.{◌≡◌, true, false, ◌||◌, List, [], ◌∷◌, ℕ, suc, ◌+◌, ◌/◌, ◌%◌, ◌≤◌, ◌<◌, max, length, drop, eqb, Option, Some, None}
use Rattle.std.proofs.Math.Path.{refl}
use Rattle.std.proofs.Common.{ap, ◌∙◌, arith, add-one, length-drop}
use borrow.Author.Tests.{eq-eqb, ne_eqb, lt-ltb, le-ltb}
use Rattle.rules.specs.Basics.{choose, at, imp, largest}
use Rattle.rules.specs.Program.{slots}
use Rattle.rules.specs.SmallGates.{bit}
use Rattle.laws.specs.Writing.{put, put_front}
use Rattle.needsets.specs.Starts.{digits, starts_next, conflicts, conflict_free, keeps, keeping, or_less, least_with}

-- ---- four entries

-- four entries are written over four
pub four-put : (a b c d : ℕ) (l : List ℕ) → length l ≡ 4 → put 0 (a ∷ b ∷ c ∷ d ∷ []) l ≡ a ∷ b ∷ c ∷ d ∷ []
four-put a b c d l e =
    put_front (a ∷ b ∷ c ∷ d ∷ []) l (omega (arith, e)) ∙ ap (λ (r : List ℕ). a ∷ b ∷ c ∷ d ∷ r) (none (drop 4 l) (omega (arith, length-drop 4 l)))
  where
    none : (r : List ℕ) → length r ≡ 0 → r ≡ []
    none [] h = refl
    none (x ∷ r) h = absurd (omega (arith, h))

-- the digits of the list with index c are four
pub four-digits : (b c : ℕ) → length (digits b 4 c) ≡ 4
unfolding digits
four-digits b c = refl

-- the slots of a list of four
pub four-slots : (l : List ℕ) → length l ≡ 4 → max (at l 0) (max (at l 1) (max (at l 2) (at l 3))) + 1 ≡ slots l
unfolding slots largest
four-slots (a ∷ b ∷ c ∷ d ∷ []) e =
    let last : d ≡ max d 0 = omega arith in
    add-one (max a (max b (max c d))) ∙ ap (λ (x : ℕ). suc (max a (max b (max c x)))) last
four-slots [] e = absurd (omega (arith, e))
four-slots (a ∷ []) e = absurd (omega (arith, e))
four-slots (a ∷ b ∷ []) e = absurd (omega (arith, e))
four-slots (a ∷ b ∷ c ∷ []) e = absurd (omega (arith, e))
four-slots (a ∷ b ∷ c ∷ d ∷ f ∷ l) e = absurd (omega (arith, e))

-- ---- is the need at e in conflict with the one at j?

module _ (n m : ℕ) (t : List ℕ) (j e : ℕ) where
  -- it is the same
  pub conflict-not-itself : e ≡ j → false ≡ conflicts n m t j e
  unfolding conflicts
  conflict-not-itself h = rw (eq-eqb e j h) refl

  module _ (other : e ≡ j → ⊥) where
    -- there is none
    pub conflict-no-need : bit m e ≡ false → false ≡ conflicts n m t j e
    unfolding conflicts
    conflict-no-need h = rw (ne_eqb e j other, h) refl

    module _ (need : bit m e ≡ true) where
      -- its taker does not start right after its giver
      pub conflict-not-next : starts_next t (e / n) (e % n) ≡ false → false ≡ conflicts n m t j e
      unfolding conflicts
      conflict-not-next h = rw (ne_eqb e j other, need, h) refl

      -- else giver and taker decide
      pub conflict-by-job : starts_next t (e / n) (e % n) ≡ true → (eqb (e / n) (j / n) || eqb (e % n) (j % n)) ≡ conflicts n m t j e
      unfolding conflicts
      conflict-by-job h = rw (ne_eqb e j other, need, h) refl

-- ---- is the need at j kept?

module _ (n m : ℕ) (t : List ℕ) (j : ℕ) where
  -- there is none
  pub keeps-no-need : bit m j ≡ false → true ≡ keeps n m t j
  unfolding keeps imp
  keeps-no-need h = rw h refl

  module _ (need : bit m j ≡ true) where
    -- its taker does not start later
    pub keeps-not-later : at t (j % n) ≤ at t (j / n) → false ≡ keeps n m t j
    unfolding keeps imp
    keeps-not-later h = rw (need, le-ltb (at t (j / n)) (at t (j % n)) h) refl

    module _ (later : at t (j / n) < at t (j % n)) where
      -- it does not start right after its giver
      pub keeps-later : starts_next t (j / n) (j % n) ≡ false → true ≡ keeps n m t j
      unfolding keeps imp
      keeps-later h = rw (need, lt-ltb (at t (j / n)) (at t (j % n)) later, h) refl

      -- it does: the other needs decide
      pub keeps-free : starts_next t (j / n) (j % n) ≡ true → conflict_free n m t j ≡ keeps n m t j
      unfolding keeps imp
      keeps-free h = rw (need, lt-ltb (at t (j / n)) (at t (j % n)) later, h) refl

-- ---- the fewest slots so far

-- none so far, this one, or the one before
pub less-first : (x : ℕ) → x ≡ or_less x None
unfolding or_less
less-first x = refl

pub less-new : (x l : ℕ) → x < l → x ≡ or_less x (Some l)
unfolding or_less
less-new x l w = omega arith

pub less-old : (x l : ℕ) → l ≤ x → l ≡ or_less x (Some l)
unfolding or_less
less-old x l w = omega arith

module _ (n m : ℕ) (t : List ℕ) (l : Option ℕ) where
  -- the list keeps the needs, or not
  pub least-with-kept : keeping n m t ≡ true → Some (or_less (slots t) l) ≡ least_with n m t l
  unfolding least_with choose
  least-with-kept h = rw h refl

  pub least-with-not : keeping n m t ≡ false → l ≡ least_with n m t l
  unfolding least_with choose
  least-with-not h = rw h refl
