-- Sets of places below 8 as numbers below 256, and the lowest place that such a set leaves. Assumes nothing.
use Rattle.std.specs.Prelude.{◌≡◌, refl, Bool, true, false, ℕ, ◌^◌, ◌≤◌, ◌<◌}
use Rattle.std.proofs.Common.{ap, ◌∙◌, arith, eqb-true}
use Rattle.rules.specs.Sizes.{max_width}
use Rattle.rules.specs.Basics.{all, range}
use Rattle.laws.specs.Tests.{T_true, T-all}
use Rattle.laws.specs.Counting.{range-below}
use Rattle.jobset.specs.declared.Set.{Set}
use Rattle.jobset.specs.Sets.{digit, member, empty, minus, is_empty, lowest}
use Rattle.jobset.specs.Inclusion.{minus-subset, subset-le}
use Rattle.jobset.specs.Membership.{in-minus, member-empty}
use Rattle.jobset.specs.Bounds.{member-lt}
use Rattle.jobset.specs.Lowest.{below-lowest, lowest-member}
use Rattle.jobset.specs.Tests.{present}
use Rattle.threes.specs.Threes.{Eight}
use Rattle.places.specs.Assign.{Lowest}
use Rattle.layout.specs.Layout.{place_sets}

-- equal numbers are equal sets
pub same_set : {x y : ℕ} → x ≡ y → ◌≡◌ {A = Set} (record { bits = x }) (record { bits = y })
same_set e = ap (λ (z : ℕ). record { bits = z }) e

-- without some places a set is no greater number
pub minus-le : (S R : Set) → (minus S R).bits ≤ S.bits
minus-le S R = subset-le (minus S R) S (minus-subset S R)

-- a byte has no member from 8 up
pub byte-eight : (S : Set) → S.bits < place_sets → Eight S
byte-eight S h = member-lt max_width S h

-- all eight places
abbrev pub every_place : Set
every_place = record { bits = 255 }

every-place : (p : ℕ) → p < max_width → member every_place p ≡ true
every-place p h = (T_true (member every_place p)).0 ((T-all (member every_place) (range max_width 0)).0 (unfold all range member digit in
    tt) p ((range-below max_width p).1 h))

-- the places that S leaves
abbrev pub free_in : Set → Set
free_in S = minus every_place S

pub free-bits : (S : Set) → (free_in S).bits < 2 ^ 64
free-bits S = omega (arith, minus-le every_place S)

-- a place that is not left is one of S
not_free : (S : Set) (p : ℕ) → p < max_width → member (free_in S) p ≡ false → member S p ≡ true
not_free S p h n = go (member S p) refl
  where
    go : (b : Bool) → member S p ≡ b → b ≡ true
    go true e = refl
    go false e = absurd (present (member (free_in S) p) ((in-minus every_place S p).1 (every-place p h, e)) n)

-- none is left: the lowest is 8
pub none_free : (S : Set) → is_empty (free_in S) ≡ true → Lowest S max_width
unfolding is_empty
none_free S e =
    let z : free_in S ≡ empty = ap (λ (x : ℕ). record { bits = x }) (eqb-true (free_in S).bits 0 e) in
    record { at_most = omega arith; is_free = λ l. absurd (omega arith); below = λ q l. not_free S q l (ap (λ (R : Set). member R q) z ∙ member-empty q) }

-- some are left: the lowest of them
pub some-free : (S : Set) (p : ℕ) → p ≡ lowest (free_in S) → is_empty (free_in S) ≡ false → Lowest S p × (p < max_width)
some-free S p z e =
    let m = lowest-member (free_in S) (free-bits S) e in
    let l = byte-eight (free_in S) (omega (arith, minus-le every_place S)) (lowest (free_in S)) m.1 in rw z (
      record {
        at_most = omega arith;
        is_free = λ _. ((in-minus every_place S (lowest (free_in S))).0 m.1).1;
        below = λ q h. not_free S q (omega arith) (below-lowest (free_in S) q h);
      },
      l,
    )
