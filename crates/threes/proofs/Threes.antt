-- The number of a state of a slot in base three, by a table of 256 entries: the entry for a byte is the sum of 3 ^ k over its set bits k
-- (request 11). With it the number of a state is the entry for done plus the entry for ran. Assumes nothing.
-- Its definitions: specs/Threes.antt.
use Rattle.std.specs.Prelude.{◌≡◌, Bool}
use Rattle.std.proofs.Math.Path.{refl, ap₂}
use Rattle.std.proofs.Common.{sym, ◌∙◌, pow-suc, lit<}
use Rattle.std.proofs.Math.Bool.{true, false}
use Rattle.std.proofs.lemmas.Bool.{false≢true}
use Prim.Native.Nat.{ℕ, zero, suc, ◌+◌, ◌*◌, ◌^◌, ◌≤◌, ◌<◌}
use Rattle.std.proofs.Math.Decide.{dec_lt, ℕ_discrete}
use native.Mathlib.Omega.{arith}
use Rattle.rules.specs.Basics.{choose}
use Rattle.jobset.specs.declared.Set.{Set}
use Rattle.jobset.specs.Sets.{member, with, Subset}
use Rattle.jobset.specs.Membership.{with-same, with-other, set-ext}
use Rattle.jobset.specs.Tests.{absent}
use Rattle.threes.specs.Threes.{threes_to, threes, number_of, Eight}

-- ---- sizes

abbrev both : ℕ → Set → Set → ℕ
both w d r = threes_to w d + threes_to w r

both-lt : (w : ℕ) (d r : Set) → both w d r < 3 ^ w
unfolding threes_to
both-lt zero d r = lit< tt
both-lt (suc w) d r = go (member d w) (member r w) (both-lt w d r) (pow-suc 3 w)
  where
    go : (x y : Bool) → both w d r < 3 ^ w → 3 ^ suc w ≡ 3 ^ w * 3 → threes_to w d + choose x (3 ^ w) 0 + (threes_to w r + choose y (3 ^ w) 0) < 3 ^ suc w
    go true true h e = unfold choose in omega arith
    go true false h e = unfold choose in omega arith
    go false true h e = unfold choose in omega arith
    go false false h e = unfold choose in omega arith

-- every number of a state is below 6,561
pub number_lt : (done ran : Set) → number_of done ran < 6561
unfolding number_of threes
number_lt done ran = both-lt 8 done ran

-- ---- one-to-one

-- two states with one number agree at each place
same-places : (w : ℕ) (d r e q : Set) → Subset r d → Subset q e → both w d r ≡ both w e q → (k : ℕ) → k < w → (member d k ≡ member e k)
    × (member r k ≡ member q k)
unfolding threes_to Subset
same-places zero d r e q i j h k l = absurd (omega arith)
same-places (suc w) d r e q i j h k l =
    last (go (member d w) (member r w) (member e w) (member q w) (i w) (j w) (both-lt w d r) (both-lt w e q) h) (dec_lt k w) (λ s. same-places w d r e q i j s k)
  where
    go : (x y z u : Bool) → (y ≡ true → x ≡ true) → (u ≡ true → z ≡ true) → both w d r < 3 ^ w → both w e q < 3 ^ w
        → threes_to w d + choose x (3 ^ w) 0 + (threes_to w r + choose y (3 ^ w) 0) ≡ threes_to w e + choose z (3 ^ w) 0 + (threes_to w q + choose u (3 ^ w) 0)
        → (x ≡ z) × (y ≡ u) × (both w d r ≡ both w e q)
    go false true z u f g m n s = absurd (false≢true (f refl))
    go true y false true f g m n s = absurd (false≢true (g refl))
    go false false false true f g m n s = absurd (false≢true (g refl))
    go true true true true f g m n s = unfold choose in (refl, refl, omega arith)
    go true false true false f g m n s = unfold choose in (refl, refl, omega arith)
    go false false false false f g m n s = unfold choose in (refl, refl, omega arith)
    go true true true false f g m n s = unfold choose in absurd (omega arith)
    go true true false false f g m n s = unfold choose in absurd (omega arith)
    go true false true true f g m n s = unfold choose in absurd (omega arith)
    go true false false false f g m n s = unfold choose in absurd (omega arith)
    go false false true u f g m n s = unfold choose in absurd (omega arith)

    last : (member d w ≡ member e w) × (member r w ≡ member q w) × (both w d r ≡ both w e q) → Dec (k < w)
        → (both w d r ≡ both w e q → k < w → (member d k ≡ member e k) × (member r k ≡ member q k)) → (member d k ≡ member e k) × (member r k ≡ member q k)
    last t (yes p) ih = ih t.2 p
    last t (no p) ih = let g : k ≡ w = omega arith in rw g (t.0, t.1)

-- two states of a slot with one number are the same
pub number-injective : (d r e q : Set) → Eight d → Eight e → Subset r d → Subset q e → number_of d r ≡ number_of e q → (d ≡ e) × (r ≡ q)
unfolding number_of threes Subset
number-injective d r e q od oe i j h = (
  set-ext d e (λ k. each d e k od oe (λ l. (same-places 8 d r e q i j h k l).0) (dec_lt k 8)),
  set-ext r q (λ k. each r q k (λ p m. od p (i p m)) (λ p m. oe p (j p m)) (λ l. (same-places 8 d r e q i j h k l).1) (dec_lt k 8)),
)
  where
    each : (x y : Set) (k : ℕ) → Eight x → Eight y → (k < 8 → member x k ≡ member y k) → Dec (k < 8) → member x k ≡ member y k
    each x y k a b f (yes l) = f l
    each x y k a b f (no l) = absent (member x k) (λ m. l (a k m)) ∙ sym (absent (member y k) (λ m. l (b k m)))

-- ---- one member more

module _ (S : Set) (k : ℕ) where
  -- a member from w up is not counted
  threes-beyond : (w : ℕ) → w ≤ k → threes_to w (with S k) ≡ threes_to w S
  unfolding threes_to
  threes-beyond zero h = refl
  threes-beyond (suc w) h =
      ap₂ (λ (x : ℕ) (b : Bool). x + choose b (3 ^ w) 0) (threes-beyond w (omega arith)) (with-other S k w (λ e. omega arith))

  -- a new member counts 3 to its power
  pub threes-with : (w : ℕ) → k < w → member S k ≡ false → threes_to w (with S k) ≡ threes_to w S + 3 ^ k
  unfolding threes_to
  threes-with zero h new = absurd (omega arith)
  threes-with (suc w) h new = go (ℕ_discrete w k) (λ l. threes-with w l new)
    where
      go : Dec (w ≡ k) → (k < w → threes_to w (with S k) ≡ threes_to w S + 3 ^ k)
          → threes_to w (with S k) + choose (member (with S k) w) (3 ^ w) 0 ≡ threes_to w S + choose (member S w) (3 ^ w) 0 + 3 ^ k
      go (yes e) rest = rw e (unfold choose in rw (with-same S k, new, threes-beyond k (omega arith)) (omega arith))
      go (no n) rest = rw (with-other S k w n) (omega (arith, rest (omega arith)))
