-- A set of places of one slot, read by the jobs that the slot holds: π gives each job its place, and two jobs of one slot have different
-- ones. What a set says of the jobs, and nothing of its bits. Assumes nothing.
use Rattle.std.specs.Prelude.{◌≡◌, refl, ◌⊎◌, ◌↔◌, Bool, true, ℕ, T}
use Rattle.std.proofs.Common.{sym, ap, ◌∙◌, inl, inr, ⊎_elim, eqb-true}
use mathlib.Core.List.Memᴰ
use mathlib.Core.List.{List, [], ◌∷◌, Memᴰ}
use Rattle.rules.specs.Basics.{choose, has, filter}
use Rattle.laws.specs.Tests.{T_true, T-has, by-choice}
use Rattle.laws.specs.Lists.{filter-mem, filter-mem⁻¹}
use Rattle.jobset.specs.declared.Set.{Set}
use Rattle.jobset.specs.Sets.{member, empty, one, with, union, intersection, minus, Subset, is_subset, is_empty, is_one}
use Rattle.jobset.specs.Membership.{member-empty, in_one, in-union, in-intersection, in-minus}
use Rattle.jobset.specs.Inclusion.{subset-antisym, is_subset_lem}
use Rattle.jobset.specs.OneMember.{is_one_lem}
use Rattle.jobset.specs.Tests.{absent, present}

-- different jobs of H have different places
abbrev pub Apart : (ℕ → ℕ) → List ℕ → Type 0
Apart π H = (i j : ℕ) → Memᴰ i H → Memᴰ j H → π i ≡ π j → i ≡ j

-- the set has no place but those of the jobs of H
abbrev pub OfPlaces : (ℕ → ℕ) → List ℕ → Set → Type 0
OfPlaces π H S = (p : ℕ) → member S p ≡ true → (i : ℕ) × Memᴰ i H × (π i ≡ p)

-- of the jobs of H the set has at their places just those that P holds of, and it has nothing else
pub record On (π : ℕ → ℕ) (H : List ℕ) (S : Set) (P : ℕ → Type 0) : Type 0 where
  pub to : (i : ℕ) → Memᴰ i H → member S (π i) ≡ true → P i
  pub from : (i : ℕ) → Memᴰ i H → P i → member S (π i) ≡ true
  pub bound : OfPlaces π H S

-- the same set, said in another way
pub on-iff : {π : ℕ → ℕ} {H : List ℕ} {S : Set} {P Q : ℕ → Type 0} → ((i : ℕ) → Memᴰ i H → P i ↔ Q i) → On π H S P → On π H S Q
on-iff f a = record { to = λ i h m. (f i h).0 (a.to i h m); from = λ i h q. a.from i h ((f i h).1 q); bound = a.bound }

-- ---- the operations

pub on-empty : (π : ℕ → ℕ) (H : List ℕ) (P : ℕ → Type 0) → ((i : ℕ) → Memᴰ i H → P i → ⊥) → On π H empty P
on-empty π H P f = record {
  to = λ i h m. absurd (present (member empty (π i)) m (member-empty (π i)));
  from = λ i h p. absurd (f i h p);
  bound = λ p m. absurd (present (member empty p) m (member-empty p));
}

pub on-union : {π : ℕ → ℕ} {H : List ℕ} {S R : Set} {P Q : ℕ → Type 0} → On π H S P → On π H R Q → On π H (union S R) (λ i. P i ⊎ Q i)
on-union {π} {H} {S} {R} a b = record {
  to = λ i h m. ⊎_elim (λ x. inl (a.to i h x)) (λ y. inr (b.to i h y)) ((in-union S R (π i)).0 m);
  from = λ i h o. (in-union S R (π i)).1 (⊎_elim (λ p. inl (a.from i h p)) (λ q. inr (b.from i h q)) o);
  bound = λ p m. ⊎_elim (a.bound p) (b.bound p) ((in-union S R p).0 m);
}

pub on-minus : {π : ℕ → ℕ} {H : List ℕ} {S R : Set} {P Q : ℕ → Type 0} → On π H S P → On π H R Q → On π H (minus S R) (λ i. P i × (Q i → ⊥))
on-minus {π} {H} {S} {R} a b = record {
  to = λ i h m. let w = (in-minus S R (π i)).0 m in (a.to i h w.0, λ q. present (member R (π i)) (b.from i h q) w.1);
  from = λ i h p. (in-minus S R (π i)).1 (a.from i h p.0, absent (member R (π i)) (λ m. p.1 (b.to i h m)));
  bound = λ p m. a.bound p ((in-minus S R p).0 m).0;
}

-- (of the second only the places of H matter)
pub on-intersection : {π : ℕ → ℕ} {H : List ℕ} {S : Set} {P Q : ℕ → Type 0} (R : Set) → On π H S P → ((i : ℕ) → Memᴰ i H → (member R (π i) ≡ true) ↔ Q i)
    → On π H (intersection S R) (λ i. P i × Q i)
on-intersection {π} {H} {S} R a b = record {
  to = λ i h m. let w = (in-intersection S R (π i)).0 m in (a.to i h w.0, (b i h).0 w.1);
  from = λ i h p. (in-intersection S R (π i)).1 (a.from i h p.0, (b i h).1 p.1);
  bound = λ p m. a.bound p ((in-intersection S R p).0 m).0;
}

-- ---- at a place

-- the job at a place of the set
pub at_place : {π : ℕ → ℕ} {H : List ℕ} {S : Set} {P : ℕ → Type 0} → On π H S P → (p : ℕ) → member S p ≡ true → (i : ℕ) × Memᴰ i H × (π i ≡ p) × P i
at_place {S = S} a p m = let w = a.bound p m in (w.0, w.1, w.2, a.to w.0 w.1 (ap (member S) w.2 ∙ m))

-- ---- the tests

pub subset-of : {π : ℕ → ℕ} {H : List ℕ} {S R : Set} {P Q : ℕ → Type 0} → On π H S P → On π H R Q → ((i : ℕ) → Memᴰ i H → P i → Q i) → Subset S R
unfolding Subset
subset-of {R = R} a b f p m = let w = at_place a p m in ap (member R) (sym w.2) ∙ b.from w.0 w.1 (f w.0 w.1 w.3)

pub on-ext : {π : ℕ → ℕ} {H : List ℕ} {S R : Set} {P : ℕ → Type 0} → On π H S P → On π H R P → S ≡ R
on-ext {S = S} {R = R} a b = subset-antisym S R (subset-of a b (λ i h p. p)) (subset-of b a (λ i h p. p))

pub subset-on : {π : ℕ → ℕ} {H : List ℕ} {S R : Set} {P Q : ℕ → Type 0} → On π H S P → On π H R Q → (is_subset S R ≡ true)
    ↔ ((i : ℕ) → Memᴰ i H → P i → Q i)
unfolding Subset
subset-on {π} {H} {S} {R} a b = (λ h i l p. b.to i l ((is_subset_lem S R).0 h (π i) (a.from i l p)), λ f. (is_subset_lem S R).1 (subset-of a b f))

pub empty-on : {π : ℕ → ℕ} {H : List ℕ} {S : Set} {P : ℕ → Type 0} → On π H S P → (is_empty S ≡ true) ↔ ((i : ℕ) → Memᴰ i H → P i → ⊥)
unfolding is_empty
empty-on {π} {H} {S} {P} a = (
  λ e i h p.
      let q : S ≡ empty = ap (λ (x : ℕ). record { bits = x }) (eqb-true S.bits 0 e) in
      present (member S (π i)) (a.from i h p) (ap (λ (R : Set). member R (π i)) q ∙ member-empty (π i)),
  λ f. ap is_empty (on-ext a (on-empty π H P f)),
)

-- just one job of H has P
pub record SoleJob (H : List ℕ) (P : ℕ → Type 0) : Type 0 where
  pub job : ℕ
  pub in-H : Memᴰ job H
  pub has : P job
  pub only : (j : ℕ) → Memᴰ j H → P j → j ≡ job

pub one_on : {π : ℕ → ℕ} {H : List ℕ} {S : Set} {P : ℕ → Type 0} → Apart π H → On π H S P → (is_one S ≡ true) ↔ SoleJob H P
one_on {π} {H} {S} {P} ap-H a = (λ h. let z = (is_one_lem S).0 h in to z.0 z.1, λ z. (is_one_lem S).1 (π z.job, on-ext a (alone z)))
  where
    to : (k : ℕ) → S ≡ one k → SoleJob H P
    to k e =
        let m : (j : ℕ) → (member S j ≡ true) ↔ (j ≡ k) = λ j. rw e (in_one k j) in
        let w = at_place a k ((m k).1 refl) in
        record { job = w.0; in-H = w.1; has = w.3; only = λ j l p. ap-H j w.0 l w.1 ((m (π j)).0 (a.from j l p) ∙ sym w.2) }

    alone : (z : SoleJob H P) → On π H (one (π z.job)) P
    alone z = record {
      to = λ i l m. rw (ap-H i z.job l z.in-H ((in_one (π z.job) (π i)).0 m)) z.has;
      from = λ i l q. (in_one (π z.job) (π i)).1 (ap π (z.only i l q));
      bound = λ q m. (z.job, z.in-H, sym ((in_one (π z.job) q).0 m));
    }

-- ---- the places of the jobs that pass a test

unfoldable pub seats_of : (ℕ → ℕ) → (ℕ → Bool) → List ℕ → Set
seats_of π p [] = empty
seats_of π p (i ∷ H) = let rest = seats_of π p H in choose (p i) (with rest (π i)) rest

pub in-seats : (π : ℕ → ℕ) (p : ℕ → Bool) (H : List ℕ) (q : ℕ) → (member (seats_of π p H) q ≡ true) ↔ ((i : ℕ) × Memᴰ i H × (π i ≡ q) × T (p i))
unfolding seats_of with
in-seats π p [] q = (λ m. absurd (present (member empty q) m (member-empty q)), λ w. absurd (Memᴰ.not-nil w.1))
in-seats π p (x ∷ H) q = go (in-seats π p H q)
  where
    go : (member (seats_of π p H) q ≡ true) ↔ ((i : ℕ) × Memᴰ i H × (π i ≡ q) × T (p i))
        → (member (choose (p x) (union (seats_of π p H) (one (π x))) (seats_of π p H)) q ≡ true) ↔ ((i : ℕ) × Memᴰ i (x ∷ H) × (π i ≡ q) × T (p i))
    go r = by-choice (λ S. (member S q ≡ true) ↔ ((i : ℕ) × Memᴰ i (x ∷ H) × (π i ≡ q) × T (p i))) (p x)
        (λ t. (
          λ m. ⊎_elim (λ a. let w = r.0 a in (w.0, Memᴰ.tail w.1, w.2, w.3)) (λ e. (x, Memᴰ.head refl, sym ((in_one (π x) q).0 e), t))
              ((in-union (seats_of π p H) (one (π x)) q).0 m),
          λ w. (in-union (seats_of π p H) (one (π x)) q).1
              (⊎_elim (λ e. inr ((in_one (π x) q).1 (sym w.2 ∙ ap π e))) (λ k. inl (r.1 (w.0, k, w.2, w.3))) (Memᴰ.cases_cons w.1)),
        ))
        (λ n. (
          λ m. let w = r.0 m in (w.0, Memᴰ.tail w.1, w.2, w.3),
          λ w. ⊎_elim (λ e. let t : T (p w.0) = w.3 in absurd (n (rw e at t))) (λ k. r.1 (w.0, k, w.2, w.3)) (Memᴰ.cases_cons w.1),
        ))

pub seats-on : (π : ℕ → ℕ) (p : ℕ → Bool) (H : List ℕ) (P : ℕ → Type 0) → Apart π H → ((i : ℕ) → Memᴰ i H → T (p i) ↔ P i) → On π H (seats_of π p H) P
seats-on π p H P ap-H f = record {
  to = λ i h m. let w = (in-seats π p H (π i)).0 m in let e : w.0 ≡ i = ap-H w.0 i w.1 h w.2 in (f i h).0 (rw e at w.3);
  from = λ i h q. (in-seats π p H (π i)).1 (i, h, refl, (f i h).1 q);
  bound = λ q m. let w = (in-seats π p H q).0 m in (w.0, w.1, w.2);
}

-- ---- a set of places as jobs, and back

-- the jobs of a set of places, rising where H is
unfoldable pub jobs_of : (ℕ → ℕ) → List ℕ → Set → List ℕ
jobs_of π H S = filter (λ i. member S (π i)) H

pub in-jobs : (π : ℕ → ℕ) (H : List ℕ) (S : Set) (i : ℕ) → Memᴰ i (jobs_of π H S) ↔ (Memᴰ i H × (member S (π i) ≡ true))
unfolding jobs_of
in-jobs π H S i = (
  λ m. let w = filter-mem⁻¹ (λ i. member S (π i)) H i m in (w.0, (T_true (member S (π i))).0 w.1),
  λ w. filter-mem (λ i. member S (π i)) H i w.0 ((T_true (member S (π i))).1 w.1),
)

pub jobs-is : (π : ℕ → ℕ) (H : List ℕ) (S : Set) → OfPlaces π H S → On π H S (λ i. Memᴰ i (jobs_of π H S))
jobs-is π H S b = record { to = λ i h m. (in-jobs π H S i).1 (h, m); from = λ i h m. ((in-jobs π H S i).0 m).1; bound = b }

-- by what a set has
pub jobs-by : {π : ℕ → ℕ} {H : List ℕ} {S : Set} {P : ℕ → Type 0} → On π H S P → (i : ℕ) → Memᴰ i (jobs_of π H S) ↔ (Memᴰ i H × P i)
jobs-by {π} {H} {S} a i = (λ m. let w = (in-jobs π H S i).0 m in (w.0, a.to i w.0 w.1), λ w. (in-jobs π H S i).1 (w.0, a.from i w.0 w.1))

-- the places of a list of jobs
unfoldable pub set_of : (ℕ → ℕ) → List ℕ → List ℕ → Set
set_of π H L = seats_of π (λ i. has i L) H

pub set-of-is : (π : ℕ → ℕ) (H L : List ℕ) → Apart π H → On π H (set_of π H L) (λ i. Memᴰ i L)
unfolding set_of
set-of-is π H L ap-H = seats-on π (λ i. has i L) H (λ i. Memᴰ i L) ap-H (λ i h. T-has i L)

-- of the jobs of a set it is the set again
pub set-of-jobs : (π : ℕ → ℕ) (H : List ℕ) → Apart π H → (S : Set) → OfPlaces π H S → set_of π H (jobs_of π H S) ≡ S
set-of-jobs π H ap-H S b = on-ext (set-of-is π H (jobs_of π H S) ap-H) (jobs-is π H S b)
