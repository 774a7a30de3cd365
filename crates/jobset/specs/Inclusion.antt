-- Inclusion of one set in another. Assumes nothing.
use Rattle.std.specs.Prelude.{◌≡◌, true, ◌↔◌, ◌⊎◌, ℕ, ◌≤◌}
use Rattle.std.proofs.Common.{sym, ap, ◌∙◌, inl, inr, arith, eq-eqb, eqb-true}
use Rattle.std.proofs.lemmas.Bool.{false≢true}
use Rattle.std.specs.Int.Bits.{bit_and}
use Rattle.std.proofs.lemmas.Nat.{and_le_r}
use Rattle.jobset.specs.declared.Set.{Set}
use Rattle.jobset.specs.Sets.{member, empty, one, union, intersection, minus, without, Subset, is_subset}
use Rattle.jobset.specs.Tests.{bool-ext}
use Rattle.jobset.specs.Membership.{member-empty, in_one, in-union, in-intersection, in-minus, set-ext}

-- ---- inclusion is a partial order, and the empty set its least

pub subset-refl : (s : Set) → Subset s s
unfolding Subset
subset-refl s j p = p

pub subset-trans : (s t u : Set) → Subset s t → Subset t u → Subset s u
unfolding Subset
subset-trans s t u f g j p = g j (f j p)

pub subset-antisym : (s t : Set) → Subset s t → Subset t s → s ≡ t
unfolding Subset
subset-antisym s t f g = set-ext s t (λ j. bool-ext (member s j) (member t j) (f j) (g j))

pub empty-subset : (s : Set) → Subset empty s
unfolding Subset
empty-subset s j p = absurd (false≢true (sym (member-empty j) ∙ p))

-- ---- of what the operations give

pub one-subset : (s : Set) (i : ℕ) → member s i ≡ true → Subset (one i) s
unfolding Subset
one-subset s i m j p = rw ((in_one i j).0 p) m

pub right-subset-union : (s t : Set) → Subset t (union s t)
unfolding Subset
right-subset-union s t j p = (in-union s t j).1 (inr p)

pub union-subset : (s t u : Set) → Subset s u → Subset t u → Subset (union s t) u
unfolding Subset
union-subset s t u f g j p = go ((in-union s t j).0 p)
  where
    go : (member s j ≡ true) ⊎ (member t j ≡ true) → member u j ≡ true
    go (inl q) = f j q
    go (inr q) = g j q

pub intersection-subset : (s t : Set) → Subset (intersection s t) t
unfolding Subset
intersection-subset s t j p = ((in-intersection s t j).0 p).1

pub minus-subset : (s t : Set) → Subset (minus s t) s
unfolding Subset
minus-subset s t j p = ((in-minus s t j).0 p).0

pub without-subset : (s : Set) (i : ℕ) → Subset (without s i) s
unfolding without
without-subset s i = minus-subset s (one i)

-- ---- the test, and the numbers

-- the test of inclusion is true exactly of a subset
pub is_subset_lem : (s t : Set) → (is_subset s t ≡ true) ↔ Subset s t
unfolding is_subset Subset intersection
is_subset_lem s t = (to, from)
  where
    to : is_subset s t ≡ true → Subset s t
    to h j p =
        let e : intersection s t ≡ s = ap (λ (n : ℕ). record { bits = n }) (eqb-true (bit_and s.bits t.bits) s.bits h) in
        ((in-intersection s t j).0 (ap (λ (u : Set). member u j) e ∙ p)).1

    from : Subset s t → is_subset s t ≡ true
    from f =
        let e : intersection s t ≡ s = set-ext (intersection s t) s (λ j. bool-ext (member (intersection s t) j) (member s j)
        (λ p. ((in-intersection s t j).0 p).0) (λ p. (in-intersection s t j).1 (p, f j p))) in
        eq-eqb (bit_and s.bits t.bits) s.bits (ap (λ (u : Set). u.bits) e)

-- a subset has no greater number
pub subset-le : (s t : Set) → Subset s t → s.bits ≤ t.bits
unfolding is_subset
subset-le s t f = omega (arith, eqb-true (bit_and s.bits t.bits) s.bits ((is_subset_lem s t).1 f), and_le_r s.bits t.bits)
