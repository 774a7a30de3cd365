-- The order of two sets by their numbers is decided by the highest place that is in one of them alone. Assumes nothing.
use Rattle.std.specs.Prelude.{◌≡◌, Bool, true, false, ◌↔◌, ℕ, zero, suc, ◌/◌, ◌%◌, ◌<◌, eqb}
use Rattle.std.proofs.Common.{sym, ap, ◌∙◌, arith, eq-eqb, ne_eqb}
use Rattle.std.proofs.lemmas.Bool.{false≢true}
use Rattle.std.proofs.Math.Decide.{ℕ_discrete, dec_lt}
use Rattle.std.proofs.Math.Arith.{bin_ind}
use Rattle.jobset.specs.declared.Set.{Set}
use Rattle.jobset.specs.Sets.{digit, member}
use Rattle.jobset.specs.Digits.{digit-half}

-- the highest place that is in one of two sets alone, where that one is s
pub record HighestDifference (s t : Set) : Type 0 where
  pub place : ℕ
  pub is-in : member s place ≡ true
  pub not_in : member t place ≡ false
  pub same_above : (i : ℕ) → place < i → member s i ≡ member t i

-- half the number has each member one place lower
abbrev half : Set → Set
half s = record { bits = s.bits / 2 }

member-half : (s : Set) (j : ℕ) → member (half s) j ≡ member s (suc j)
unfolding member
member-half s j = ap (λ (d : ℕ). eqb d 1) (digit-half s.bits j)

-- two sets differ highest where their halves do, or else at place 0
step : (s t : Set) → t.bits < s.bits → ((half t).bits < (half s).bits → HighestDifference (half s) (half t)) → Dec ((half s).bits ≡ (half t).bits)
    → HighestDifference s t
unfolding member digit
step s t l ih (yes e) = record {
  place = zero;
  is-in = eq-eqb (s.bits / 1 % 2) 1 (omega arith);
  not_in = ne_eqb (t.bits / 1 % 2) 1 (λ p. omega arith);
  same_above = above;
}
  where
    above : (i : ℕ) → 0 < i → member s i ≡ member t i
    above zero h = absurd (omega arith)
    above (suc i) h = sym (member-half s i) ∙ ap (λ (n : ℕ). member (record { bits = n }) i) e ∙ member-half t i
step s t l ih (no n) =
    let r = ih (omega arith) in
    record {
      place = suc r.place;
      is-in = sym (member-half s r.place) ∙ r.is-in;
      not_in = sym (member-half t r.place) ∙ r.not_in;
      same_above = above r.place r.same_above;
    }
  where
    above : (j : ℕ) → ((i : ℕ) → j < i → member (half s) i ≡ member (half t) i) → (i : ℕ) → suc j < i → member s i ≡ member t i
    above j f zero h = absurd (omega arith)
    above j f (suc i) h = sym (member-half s i) ∙ f i (omega arith) ∙ member-half t i

to : (s t : Set) → t.bits < s.bits → HighestDifference s t
to s = bin_ind (λ (n : ℕ). (t : Set) → t.bits < n → HighestDifference (record { bits = n }) t) (λ t l. absurd (omega arith))
    (λ n ih t l. step (record { bits = n }) t l (ih (half t)) (ℕ_discrete (n / 2) (t.bits / 2))) s.bits

from : (s t : Set) → HighestDifference s t → t.bits < s.bits
from s t a = go (dec_lt t.bits s.bits) (ℕ_discrete t.bits s.bits)
  where
    not-both : (b : Bool) → b ≡ true → b ≡ false → ⊥
    not-both b p q = false≢true (sym q ∙ p)

    -- each of the two cannot be the one that has it
    not-two : (b : HighestDifference t s) → Dec (a.place < b.place) → Dec (b.place < a.place) → ⊥
    not-two b (yes l) d = not-both (member t b.place) b.is-in (sym (a.same_above b.place l) ∙ b.not_in)
    not-two b (no n) (yes l) = not-both (member s a.place) a.is-in (sym (b.same_above a.place l) ∙ a.not_in)
    not-two b (no n) (no m) = let e : a.place ≡ b.place = omega arith in not-both (member s a.place) a.is-in (ap (member s) e ∙ b.not_in)

    go : Dec (t.bits < s.bits) → Dec (t.bits ≡ s.bits) → t.bits < s.bits
    go (yes l) d = l
    go (no n) (yes e) = absurd (not-both (member s a.place) a.is-in (ap (λ (x : ℕ). member (record { bits = x }) a.place) (sym e) ∙ a.not_in))
    go (no n) (no m) = let b = to t s (omega arith) in absurd (not-two b (dec_lt a.place b.place) (dec_lt b.place a.place))

-- a set has the greater number exactly where it has the highest place that is in one of the two alone
pub greater-iff : (s t : Set) → (t.bits < s.bits) ↔ HighestDifference s t
greater-iff s t = (to s t, from s t)
