-- A set of numbers below w is a number below 2 ^ w. Assumes nothing.
use Rattle.std.specs.Prelude.{◌≡◌, true, ℕ, ◌%◌, ◌^◌, ◌<◌, eqb}
use Rattle.std.proofs.Common.{sym, ap, ◌∙◌, lt_of_lt_of_le, arith, pow_mono}
use Rattle.std.proofs.lemmas.Bool.{false≢true}
use Rattle.std.proofs.Math.Nat.{div-eq_of_lt}
use Rattle.std.proofs.Math.Decide.{dec_lt}
use Rattle.std.proofs.lemmas.Nat.{or_lt}
use Rattle.std.proofs.Math.Pow.{pow-lt}
use Rattle.jobset.specs.declared.Set.{Set}
use Rattle.jobset.specs.Sets.{digit, member, one, union, with}

-- with one more below w
pub with-lt : (w : ℕ) (S : Set) (p : ℕ) → S.bits < 2 ^ w → p < w → (with S p).bits < 2 ^ w
unfolding with union one
with-lt w S p h l = or_lt w S.bits (2 ^ p) h (pow-lt l)

-- it has no member from w up
pub member-lt : (w : ℕ) (S : Set) → S.bits < 2 ^ w → (p : ℕ) → member S p ≡ true → p < w
unfolding member digit
member-lt w S h p m = go (dec_lt p w)
  where
    go : Dec (p < w) → p < w
    go (yes l) = l
    go (no l) = absurd (false≢true (sym (ap (λ (x : ℕ). eqb (x % 2) 1) (div-eq_of_lt (lt_of_lt_of_le h (pow_mono {i = w} {j = p} (omega arith))))) ∙ m))
