-- A field of a file: whether it is whole, and where its value lies. Assumes nothing.
use Rattle.std.specs.Prelude.{◌≡◌, false, List, ℕ, ◌+◌, ◌-◌, ◌≤◌, ◌<◌, length, take, drop, T, leb}
use Rattle.std.proofs.Math.Path.{refl}
use Rattle.std.proofs.Common.{sym}
use native.Mathlib.Omega.{arith}
use Rattle.rules.specs.Basics.{at}
use Rattle.rules.specs.Numbers.{word}
use Rattle.rules.specs.Fields.{part, field_end, value, whole}
use Rattle.laws.specs.Tests.{tests, bool-ext, T_false}
use Rattle.laws.specs.Fields.{whole_is}

module _ (bs : List ℕ) (a : ℕ) where
  -- the head is not whole
  pub head-short : a ≤ length bs → length bs - a < 3 → false ≡ whole bs a
  head-short h l = sym (T_false (whole bs a) (λ t. omega (arith, (whole_is bs a).0 t)))

  -- w is the length in the head
  module _ (w : ℕ) (w-is : w ≡ word (at bs (a + 1)) (at bs (a + 1 + 1))) where
    end_is : field_end bs a ≡ a + 3 + w
    unfolding field_end
    end_is = rw (w-is, let two : a + 1 + 1 ≡ a + 2 = omega arith in two) refl

    pub whole_by : a ≤ length bs → 3 ≤ length bs - a → leb w (length bs - a - 3) ≡ whole bs a
    whole_by h l =
        bool-ext (leb w (length bs - a - 3)) (whole bs a)
        (λ t. let m : w ≤ length bs - a - 3 = simp tests at t in (whole_is bs a).1 (omega arith, omega (arith, end_is)))
        (λ t. let m = (whole_is bs a).0 t in simp tests (omega (arith, end_is)))

    pub value-ends : T (whole bs a) → a + 3 + w ≤ length bs
    value-ends t = omega (arith, (whole_is bs a).0 t, end_is)

    pub value-part : take (a + 3 + w - (a + 3)) (drop (a + 3) bs) ≡ value bs a
    unfolding value part
    value-part = rw end_is refl

  pub head_in : T (whole bs a) → a + 3 ≤ length bs
  head_in t = ((whole_is bs a).0 t).0
