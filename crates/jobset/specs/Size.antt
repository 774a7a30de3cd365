-- The number of members of a set. Assumes nothing.
use Rattle.std.specs.Prelude.{◌≡◌, refl, ◌∷◌, ℕ, zero, suc, ◌+◌, ◌/◌, ◌%◌, ◌^◌, ◌<◌, ◌≤◌, eqb, length}
use Rattle.std.proofs.Common.{sym, ap, ◌∙◌, pow-suc, shr-shr}
use native.Mathlib.Omega.{arith}
use Rattle.std.specs.Int.Count.{ones, ones_step}
use Rattle.rules.specs.Basics.{choose}
use Rattle.jobset.specs.declared.Set.{Set}
use Rattle.jobset.specs.Sets.{digit, member, size, members_from, members}
use lib.Count.{ones-le}
use Rattle.jobset.specs.Digits.{digit_lt}

-- the ones of a number from place i up are the members from i up
ones-from : (k i : ℕ) (s : Set) → s.bits / 2 ^ i < 2 ^ k → ones (s.bits / 2 ^ i) ≡ length (members_from k i s)
unfolding members_from member digit
ones-from zero i s h = let e : s.bits / 2 ^ i ≡ 0 = omega arith in rw e (unfold ones in refl)
ones-from (suc k) i s h =
    let e : s.bits / 2 ^ i / 2 ≡ s.bits / 2 ^ suc i = shr-shr s.bits i 1 ∙ ap (λ (j : ℕ). s.bits / 2 ^ j) (omega arith) in
    let p = pow-suc 2 k in
    ones_step (s.bits / 2 ^ i)
    ∙ ap (λ (n : ℕ). s.bits / 2 ^ i % 2 + ones n) e
    ∙ go (s.bits / 2 ^ i % 2) (digit_lt s.bits i) (ones-from k (suc i) s (omega arith))
  where
    go : (d : ℕ) → d < 2 → ones (s.bits / 2 ^ suc i) ≡ length (members_from k (suc i) s)
        → d + ones (s.bits / 2 ^ suc i) ≡ length (choose (eqb d 1) (i ∷ members_from k (suc i) s) (members_from k (suc i) s))
    go zero h ih = unfold choose in omega arith
    go (suc zero) h ih = unfold choose in omega arith
    go (suc (suc d)) h ih = absurd (omega arith)

-- the size is the length of the list of members
pub size-members : (s : Set) → s.bits < 2 ^ 64 → size s ≡ length (members s)
unfolding size members
size-members s h = let e : s.bits / 1 ≡ s.bits = omega arith in ap ones (sym e) ∙ ones-from 64 0 s (omega arith)

-- there are at most 64
pub size-most : (s : Set) → s.bits < 2 ^ 64 → length (members s) ≤ 64
unfolding size
size-most s h = rw (sym (size-members s h)) (ones-le 64 s.bits h)
