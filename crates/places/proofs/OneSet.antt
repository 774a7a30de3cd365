-- A state that does not branch: where no tying place has two candidates and all that fits is within the cap, one set is tried, all the
-- candidates. Whatever the state, as code meets it. Assumes nothing.
use Rattle.std.specs.Prelude.{◌≡◌, ◌⊎◌, ◌↔◌, List, [], ◌∷◌, ℕ, ◌^◌, ◌≤◌, ◌<◌}
use Rattle.std.proofs.Math.Path.{refl, sym, ap}
use Rattle.std.proofs.Common.{◌∙◌, inl, inr, ⊎_elim}
use Rattle.std.proofs.Math.Bool.{true, and-eq-true_iff}
use native.Mathlib.Omega.{arith}
use Rattle.std.proofs.Math.ListN.{length}
use Rattle.rules.specs.Basics.{Distinct}
use Rattle.jobset.specs.declared.Set.{Set}
use Rattle.jobset.specs.Sets.{member, one, minus, intersection, is_subset, is_empty, is_one, members, Subset}
use Rattle.jobset.specs.Membership.{in_one, in-union, in-intersection}
use Rattle.jobset.specs.Inclusion.{subset-antisym}
use Rattle.jobset.specs.OneMember.{is_one_lem}
use Rattle.places.specs.Rows.{empty-says, row-distinct, places_of, in-places, Loose, tried_below}
use Rattle.places.proofs.Rows.{whole_row}
use Rattle.places.specs.Tables.{Tables}
use Rattle.places.specs.Slot.{Candidates, is_forced, is_tied, carried, candidates_at, near_at, able_of, row_at, fit_of, most_of, tries_at, in-forced, in-tied}
use Rattle.places.specs.Slot.{Tying, in-tying}
use Rattle.places.specs.Fit.{members-distinct, Ties, fit-most, fit-least}
use Rattle.places.specs.Slot.{in-row-at, most-is}

module _ (A : Tables) (s : ℕ) (done ran : Set) where
  abbrev c : Candidates
  c = candidates_at A s done ran

  abbrev near : ℕ → Set
  near = near_at A s ran

  abbrev row : List ℕ
  row = row_at A s (candidates_at A s done ran)

  abbrev free : Set
  free = minus (A.held s) (carried A s done)

  forced-law : (p : ℕ) → (member c.forced p ≡ true) ↔ ((p < 64) × (member free p ≡ true) × (is_forced done ran (A.prev s p) ≡ true))
  unfolding candidates_at
  forced-law p = in-forced done ran (A.prev s) free p

  tied-law : (p : ℕ) → (member c.tied p ≡ true) ↔ ((p < 64) × (member free p ≡ true) × (is_tied done ran (A.prev s p) ≡ true))
  unfolding candidates_at
  tied-law p = in-tied done ran (A.prev s) free p

  tying-law : (p : ℕ) → (member c.tying p ≡ true) ↔ Tying done ran (A.prev s) free p
  unfolding candidates_at
  tying-law p = in-tying done ran (A.prev s) free p

  -- a tied place has one near place
  near-sole : (p : ℕ) → is_tied done ran (A.prev s p) ≡ true → (k : ℕ) × (near p ≡ one k)
  unfolding is_tied near_at
  near-sole p e = (is_one_lem (intersection (A.prev s p) ran)).0 ((and-eq-true_iff (is_subset (A.prev s p) done) (is_one (intersection (A.prev s p) ran))).0 e).1

  -- a forced one has none
  near_none : (p k : ℕ) → is_forced done ran (A.prev s p) ≡ true → member (near p) k ≡ true → ⊥
  unfolding is_forced near_at
  near_none p k e = (empty-says (intersection (A.prev s p) ran)).0
      ((and-eq-true_iff (is_subset (A.prev s p) done) (is_empty (intersection (A.prev s p) ran))).0 e).1 k

  in_near : (p k l : ℕ) → near p ≡ one k → (member (near p) l ≡ true) ↔ (l ≡ k)
  in_near p k l e = rw e (in_one k l)

  pub ties-at : ((p : ℕ) → member ran p ≡ true → p < 64)
      → Ties (candidates_at A s done ran).forced (candidates_at A s done ran).tied (candidates_at A s done ran).tying (near_at A s ran)
  unfolding near_at
  ties-at low = record {
    near_of = λ p m.
        let w = (tied-law p).0 m in
        let z = near-sole p w.2 in
        let n : member (near p) z.0 ≡ true = (in_near p z.0 z.0 z.1).1 refl in
        (z.0, n, (tying-law z.0).1 record { taker = p; below_64 = w.0; is_free = w.1; is_tied_lem = w.2; is-giver = n });
    near-one = λ p k l m u v. let z = near-sole p ((tied-law p).0 m).2 in (in_near p z.0 k z.1).0 u ∙ sym ((in_near p z.0 l z.1).0 v);
    taker-of = λ k m. let w = (tying-law k).0 m in (w.taker, (tied-law w.taker).1 (w.below_64, w.is_free, w.is_tied_lem), w.is-giver);
    other = λ p a b. let z = near-sole p ((tied-law p).0 b).2 in near_none p z.0 ((forced-law p).0 a).2 ((in_near p z.0 z.0 z.1).1 refl);
    forced-low = λ p m. ((forced-law p).0 m).0;
    tying-low = λ p m. let w = (tying-law p).0 m in low p ((in-intersection (A.prev s w.taker) ran p).0 w.is-giver).1;
  }

  in-able : (p : ℕ) → (member (able_of c) p ≡ true) ↔ ((member c.forced p ≡ true) ⊎ (member c.tied p ≡ true))
  unfolding able_of
  in-able p = in-union c.forced c.tied p

  able-low : (p : ℕ) → member (able_of c) p ≡ true → p < 64
  able-low p m = ⊎_elim (λ f. ((forced-law p).0 f).0) (λ t. ((tied-law p).0 t).0) ((in-able p).0 m)

  -- the row as a set is all candidates
  pub row-able : places_of (row_at A s (candidates_at A s done ran)) ≡ able_of (candidates_at A s done ran)
  row-able = subset-antisym (places_of row) (able_of c) (unfold Subset in λ p m. ((in-row-at A s c p).0 ((in-places row p).0 m)).1) (unfold Subset in
      λ p m. (in-places row p).1 ((in-row-at A s c p).1 (able-low p m, m)))

  d : Distinct (row_at A s (candidates_at A s done ran))
  unfolding row_at
  d = row-distinct (A.who s) (members (able_of c)) (members-distinct (able_of c))

  module _ (low : (p : ℕ) → member ran p ≡ true → p < 64) (loose : Loose (near_at A s ran) (row_at A s (candidates_at A s done ran))) where
    -- where no two candidates share a giver in the slot before, all of them fit
    pub row_fits : length (row_at A s (candidates_at A s done ran)) ≡ fit_of (candidates_at A s done ran)
    unfolding fit_of
    row_fits = omega (
      arith,
      fit-most c.forced c.tied c.tying near (ties-at low) row d (λ p m. (in-able p).0 ((in-row-at A s c p).0 m).1) loose,
      fit-least c.forced c.tied c.tying near (ties-at low) row d (λ p m. (in-row-at A s c p).1 (((forced-law p).0 m).0, (in-able p).1 (inl m)))
          (λ k m. let w = (ties-at low).taker-of k m in
          (w.0, (in-row-at A s c w.0).1 (((tied-law w.0).0 w.1).0, (in-able w.0).1 (inr w.1)), w.1, w.2)),
    )

    -- and where they are within the cap, all of them are the one set tried
    pub one_set : (cap : ℕ) → fit_of (candidates_at A s done ran) ≤ cap → tries_at A cap s done ran ≡ able_of (candidates_at A s done ran) ∷ []
    unfolding tries_at
    one_set cap h =
        let e : most_of cap c ≡ length row = sym
        ((most-is cap c).2 (length row) (omega (arith, row_fits)) (omega (arith, row_fits)) (inr (omega (arith, row_fits)))) in
        ap (λ (m : ℕ). tried_below near row m (2 ^ length row)) e ∙ whole_row near row d loose ∙ ap (λ (S : Set). S ∷ []) row-able
