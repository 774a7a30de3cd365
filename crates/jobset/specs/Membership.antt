-- The members of what each operation gives. Assumes nothing.
use Rattle.std.specs.Prelude.{◌≡◌, refl, true, false, not, ◌&&◌, ◌||◌, ◌↔◌, ◌⊎◌, ℕ, ◌^◌, min, max, eqb}
use Rattle.std.proofs.Common.{ap, ◌∙◌, true≢false, eq-eqb, ne_eqb, eqb-true}
use Rattle.std.proofs.Math.Bool.{and-true, and-false, or-true, or-false, and-eq-true_iff}
use Rattle.std.proofs.lemmas.Bool.{false≢true}
use Rattle.std.proofs.Math.Decide.{ℕ_discrete}
use Rattle.std.specs.Int.Bits.{bit_and, differ}
use Rattle.jobset.specs.declared.Set.{Set}
use Rattle.jobset.specs.Sets.{digit, member, empty, one, union, intersection, minus, with, without}
use Rattle.jobset.specs.Tests.{or-true-iff, not-true-iff}
use Rattle.jobset.specs.Digits.{digit-cases, digit_or, digit_and, digit-xor, digit-zero, digit-pow-same, digit-pow-other, digit-ext}

-- ---- the test of membership, as an equation of tests

pub member-empty : (j : ℕ) → member empty j ≡ false
unfolding member
member-empty j = rw (digit-zero j)

pub member-one : (i j : ℕ) → member (one i) j ≡ eqb j i
unfolding member one
member-one i j = go (ℕ_discrete j i)
  where
    go : Dec (j ≡ i) → eqb (digit (2 ^ i) j) 1 ≡ eqb j i
    go (yes e) = rw (eq-eqb j i e, e) (eq-eqb (digit (2 ^ i) i) 1 (digit-pow-same i))
    go (no n) = rw (digit-pow-other i j n, ne_eqb j i n)

pub member_union : (s t : Set) (j : ℕ) → member (union s t) j ≡ (member s j || member t j)
unfolding member union
member_union s t j =
    ap (λ (d : ℕ). eqb d 1) (digit_or s.bits t.bits j)
    ∙ digit-cases (λ d e. eqb (max d e) 1 ≡ (eqb d 1 || eqb e 1)) refl refl refl refl s.bits t.bits j

pub member-intersection : (s t : Set) (j : ℕ) → member (intersection s t) j ≡ (member s j && member t j)
unfolding member intersection
member-intersection s t j =
    ap (λ (d : ℕ). eqb d 1) (digit_and s.bits t.bits j)
    ∙ digit-cases (λ d e. eqb (min d e) 1 ≡ (eqb d 1 && eqb e 1)) refl refl refl refl s.bits t.bits j

pub member-minus : (s t : Set) (j : ℕ) → member (minus s t) j ≡ (member s j && not (member t j))
unfolding member minus
member-minus s t j =
    ap (λ (d : ℕ). eqb d 1) (digit-xor s.bits (bit_and s.bits t.bits) j ∙ ap (differ (digit s.bits j)) (digit_and s.bits t.bits j))
    ∙ digit-cases (λ d e. eqb (differ d (min d e)) 1 ≡ (eqb d 1 && not (eqb e 1))) refl refl refl refl s.bits t.bits j

pub member-with : (s : Set) (i j : ℕ) → member (with s i) j ≡ (member s j || eqb j i)
unfolding with
member-with s i j = rw (member_union, member-one)

pub member-without : (s : Set) (i j : ℕ) → member (without s i) j ≡ (member s j && not (eqb j i))
unfolding without
member-without s i j = rw (member-minus, member-one)

-- ---- as a statement

pub in_one : (i j : ℕ) → (member (one i) j ≡ true) ↔ (j ≡ i)
in_one i j = rw (member-one) (eqb-true j i, eq-eqb j i)

pub in-union : (s t : Set) (j : ℕ) → (member (union s t) j ≡ true) ↔ ((member s j ≡ true) ⊎ (member t j ≡ true))
in-union s t j = rw (member_union) (or-true-iff (member s j) (member t j))

pub in-intersection : (s t : Set) (j : ℕ) → (member (intersection s t) j ≡ true) ↔ ((member s j ≡ true) × (member t j ≡ true))
in-intersection s t j = rw (member-intersection) (and-eq-true_iff (member s j) (member t j))

pub in-minus : (s t : Set) (j : ℕ) → (member (minus s t) j ≡ true) ↔ ((member s j ≡ true) × (member t j ≡ false))
in-minus s t j = simp (member-minus, and-eq-true_iff, not-true-iff) (λ h. h, λ h. h)

-- ---- more

-- i is a member of s with i
pub with-same : (s : Set) (i : ℕ) → member (with s i) i ≡ true
with-same s i = rw (member-with s i i, eq-eqb i i refl) (or-true (member s i))

-- every other place is a member of s with i where it is one of s
pub with-other : (s : Set) (i j : ℕ) → (j ≡ i → ⊥) → member (with s i) j ≡ member s j
with-other s i j n = rw (member-with s i j, ne_eqb j i n) (or-false (member s j))

-- i is no member of s without i
pub without-same : (s : Set) (i : ℕ) → member (without s i) i ≡ false
without-same s i = rw (member-without, eq-eqb i i refl) (and-false (member s i))

-- every other place is a member of s without i where it is one of s
pub without_other : (s : Set) (i j : ℕ) → (j ≡ i → ⊥) → member (without s i) j ≡ member s j
without_other s i j n = rw (member-without, ne_eqb j i n) (and-true (member s j))

-- two sets with the same members are equal
pub set-ext : (s t : Set) → ((j : ℕ) → member s j ≡ member t j) → s ≡ t
unfolding member
set-ext s t h = ap (λ (n : ℕ). record { bits = n }) (digit-ext s.bits t.bits (λ j.
    digit-cases (λ d e. eqb d 1 ≡ eqb e 1 → d ≡ e)
    (λ p. refl) (λ p. absurd (false≢true p)) (λ p. absurd (true≢false p)) (λ p. refl) s.bits t.bits j (h j)))
