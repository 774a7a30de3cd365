-- One slot of the search over places: its candidates, the sets that it tries, and what each of them is by membership. Assumes nothing.
-- More of what holds: proofs/Slot.antt.
use Rattle.std.specs.Prelude.{◌≡◌, ◌⊎◌, ◌↔◌, Bool, ◌&&◌, ◌||◌, ℕ, ◌+◌, ◌^◌, ◌≤◌, ◌<◌, leb, length}
use Rattle.std.proofs.Math.Path.{refl}
use Rattle.std.proofs.Common.{sym, ◌∙◌, ⊎_elim, arith, eq-eqb, eqb-true}
use mathlib.Core.Logic.Iff
use Rattle.std.proofs.Math.Bool.{true, false, and-eq-true_iff, or-false, or_assoc}
use Rattle.std.proofs.lemmas.Bool.{false≢true}
use mathlib.Core.List.{List, [], ◌∷◌, Memᴰ}
use Rattle.std.proofs.Math.Dec.{eqb}
use Rattle.rules.specs.Basics.{choose, any}
use Rattle.laws.specs.Tests.{T-any, T_true, T-leb, by-choice}
use Rattle.jobset.specs.declared.Set.{Set}
use Rattle.jobset.specs.Sets.{member, empty, with, union, minus, intersection, is_subset, is_empty, is_one, size, members}
use Rattle.jobset.specs.Membership.{member-empty, member-with, member_union, in-minus}
use Rattle.jobset.specs.Members.{in_members}
use Rattle.places.specs.Tables.{Tables}
use Rattle.places.specs.Rows.{by_number, in_row, tried_below}

-- the candidates of a slot: forced and tied are places of the slot, tying are places of the slot before
pub record Candidates : Type 0 where
  pub forced : Set
  pub tied : Set
  pub tying : Set

-- ---- the candidates, `done` being done before the slot, and `ran` what ran in the slot before; givers, done and ran are places of the slot before

-- the givers are done, and none of them ran in the slot before
unfoldable pub is_forced : Set → Set → Set → Bool
is_forced done ran givers = is_subset givers done && is_empty (intersection givers ran)

-- the givers are done, and exactly one of them ran in the slot before
unfoldable pub is_tied : Set → Set → Set → Bool
is_tied done ran givers = is_subset givers done && is_one (intersection givers ran)

-- one more place, with its givers: a candidate if forced or tied; the giver that a tied one has in the slot before is tying
unfoldable pub sort_candidate : Set → Set → ℕ → Set → Candidates → Candidates
sort_candidate done ran i givers c =
    choose (is_forced done ran givers) (record { forced = with c.forced i; tied = c.tied; tying = c.tying })
    (choose (is_tied done ran givers) (record { forced = c.forced; tied = with c.tied i; tying = union c.tying (intersection givers ran) }) c)

unfoldable pub sort_candidates : (ℕ → Set) → Set → Set → Candidates → List ℕ → Candidates
sort_candidates givers done ran c [] = c
sort_candidates givers done ran c (i ∷ is) = sort_candidates givers done ran (sort_candidate done ran i (givers i) c) is

abbrev pub no_candidates : Candidates
no_candidates = record { forced = empty; tied = empty; tying = empty }

-- the candidates among the places `free`
unfoldable pub candidates_of : (ℕ → Set) → Set → Set → Set → Candidates
candidates_of givers free done ran = sort_candidates givers done ran no_candidates (members free)

-- what is done of the places of slot s, before it: those of the slot before, without what has left
unfoldable pub carried : Tables → ℕ → Set → Set
carried A s done = minus done (A.ends s)

-- the candidates of slot s: of its places that are not done
unfoldable pub candidates_at : Tables → ℕ → Set → Set → Candidates
candidates_at A s done ran = candidates_of (A.prev s) (minus (A.held s) (carried A s done)) done ran

-- ---- the sets tried

-- the givers of the job at place p that ran in the slot before
unfoldable pub near_at : Tables → ℕ → Set → ℕ → Set
near_at A s ran p = intersection (A.prev s p) ran

-- all candidates, and their places by rising job number
unfoldable pub able_of : Candidates → Set
able_of c = union c.forced c.tied

unfoldable pub row_at : Tables → ℕ → Candidates → List ℕ
row_at A s c = by_number (A.who s) (members (able_of c))

-- how many jobs one slot can get: all that is forced, and one for each tying place
unfoldable pub fit_of : Candidates → ℕ
fit_of c = size c.forced + size c.tying

-- as many as fit, or the cap
unfoldable pub most_of : ℕ → Candidates → ℕ
most_of cap c = choose (leb cap (fit_of c)) cap (fit_of c)

-- the sets that slot s tries: of the candidates exactly so many, at most one for each tying place, in the order of preference
unfoldable pub tries_at : Tables → ℕ → ℕ → Set → Set → List Set
tries_at A cap s done ran =
    let c = candidates_at A s done ran in
    let row = row_at A s c in
    tried_below (near_at A s ran) row (most_of cap c) (2 ^ length row)

-- ---- the candidates by membership

-- no set is both empty and of one member
forced-not-tied : (done ran givers : Set) → is_forced done ran givers ≡ true → is_tied done ran givers ≡ false
unfolding is_forced is_tied is_one choose
forced-not-tied done ran givers h = let w = (and-eq-true_iff (is_subset givers done) (is_empty (intersection givers ran))).0 h in rw (w.0, w.1)

module _ (done ran : Set) where
  -- what one more place adds to each of the three sets
  sort-forced : (i : ℕ) (g : Set) (c : Candidates) (x : ℕ) → member (sort_candidate done ran i g c).forced x
      ≡ (member c.forced x || (is_forced done ran g && eqb x i))
  unfolding sort_candidate choose
  sort-forced i g c x = go (is_forced done ran g) refl (is_tied done ran g) refl
    where
      go : (f : Bool) → is_forced done ran g ≡ f → (t : Bool) → is_tied done ran g ≡ t → member (sort_candidate done ran i g c).forced x
          ≡ (member c.forced x || (f && eqb x i))
      go true e t q = rw (e) (member-with c.forced i x)
      go false e true q = rw (e, q, or-false)
      go false e false q = rw (e, q, or-false)

  sort-tied : (i : ℕ) (g : Set) (c : Candidates) (x : ℕ)
      → member (sort_candidate done ran i g c).tied x ≡ (member c.tied x || (is_tied done ran g && eqb x i))
  unfolding sort_candidate choose
  sort-tied i g c x = go (is_forced done ran g) refl (is_tied done ran g) refl
    where
      go : (f : Bool) → is_forced done ran g ≡ f → (t : Bool) → is_tied done ran g ≡ t → member (sort_candidate done ran i g c).tied x
          ≡ (member c.tied x || (t && eqb x i))
      go true e true q = absurd (false≢true (sym (forced-not-tied done ran g e) ∙ q))
      go true e false q = rw (e, or-false)
      go false e true q = rw (e, q) (member-with c.tied i x)
      go false e false q = rw (e, q, or-false)

  sort-tying : (i : ℕ) (g : Set) (c : Candidates) (x : ℕ) → member (sort_candidate done ran i g c).tying x
      ≡ (member c.tying x || (is_tied done ran g && member (intersection g ran) x))
  unfolding sort_candidate choose
  sort-tying i g c x = go (is_forced done ran g) refl (is_tied done ran g) refl
    where
      go : (f : Bool) → is_forced done ran g ≡ f → (t : Bool) → is_tied done ran g ≡ t
          → member (sort_candidate done ran i g c).tying x ≡ (member c.tying x || (t && member (intersection g ran) x))
      go true e true q = absurd (false≢true (sym (forced-not-tied done ran g e) ∙ q))
      go true e false q = rw (e, or-false)
      go false e true q = rw (e, q) (member_union c.tying (intersection g ran) x)
      go false e false q = rw (e, q, or-false)

  -- so for all places: `part` is one of the three sets, `adds i g x` whether place i with givers g puts x into it
  module _ (givers : ℕ → Set) (part : Candidates → Set) (adds : ℕ → Set → ℕ → Bool)
      (law : (i : ℕ) (g : Set) (c : Candidates) (x : ℕ) → member (part (sort_candidate done ran i g c)) x ≡ (member (part c) x || adds i g x)) where
    sorted : (is : List ℕ) (c : Candidates) (x : ℕ) → member (part (sort_candidates givers done ran c is)) x
        ≡ (member (part c) x || any (λ i. adds i (givers i) x) is)
    unfolding sort_candidates any
    sorted [] c x = rw (or-false)
    sorted (i ∷ is) c x = rw (sorted is (sort_candidate done ran i (givers i) c) x, law i (givers i) c x, or_assoc)

    in-sorted : (free : Set) (x : ℕ) → member (part no_candidates) x ≡ false
        → (member (part (candidates_of givers free done ran)) x ≡ true) ↔ ((i : ℕ) × ((i < 64) × (member free i ≡ true)) × (adds i (givers i) x ≡ true))
    unfolding candidates_of
    in-sorted free x e = rw (sorted (members free) no_candidates x, e) (
      λ h. let w = (T-any (λ i. adds i (givers i) x) (members free)).0 ((T_true (any (λ i. adds i (givers i) x) (members free))).1 h) in
          (w.0, (in_members free w.0).0 w.1, (T_true (adds w.0 (givers w.0) x)).0 w.2),
      λ w. (T_true (any (λ i. adds i (givers i) x) (members free))).0 ((T-any (λ i. adds i (givers i) x) (members free)).1
          (w.0, (in_members free w.0).1 w.1, (T_true (adds w.0 (givers w.0) x)).1 w.2)),
    )

  module _ (givers : ℕ → Set) (free : Set) where
    -- the place i that puts x into a set is x itself
    itself : (test : Set → Bool) (x : ℕ) → ((i : ℕ) × ((i < 64) × (member free i ≡ true)) × ((test (givers i) && eqb x i) ≡ true))
        ↔ ((x < 64) × (member free x ≡ true) × (test (givers x) ≡ true))
    itself test x = (
      λ w. let v = (and-eq-true_iff (test (givers w.0)) (eqb x w.0)).0 w.2 in
          rw (eqb-true x w.0 v.1) (w.1.0, w.1.1, v.0),
      λ h. (x, (h.0, h.1), (and-eq-true_iff (test (givers x)) (eqb x x)).1 (h.2, eq-eqb x x refl)),
    )

    -- the forced places: free, with all givers done and none in the slot before
    pub in-forced : (x : ℕ) → (member (candidates_of givers free done ran).forced x ≡ true)
        ↔ ((x < 64) × (member free x ≡ true) × (is_forced done ran (givers x) ≡ true))
    in-forced x = Iff.trans (in-sorted givers (λ c. c.forced) (λ i g x. is_forced done ran g && eqb x i) sort-forced free x (member-empty x))
        (itself (is_forced done ran) x)

    -- the tied places: free, with all givers done and exactly one in the slot before
    pub in-tied : (x : ℕ) → (member (candidates_of givers free done ran).tied x ≡ true)
        ↔ ((x < 64) × (member free x ≡ true) × (is_tied done ran (givers x) ≡ true))
    in-tied x = Iff.trans (in-sorted givers (λ c. c.tied) (λ i g x. is_tied done ran g && eqb x i) sort-tied free x (member-empty x))
        (itself (is_tied done ran) x)

    -- the tying places: the givers in the slot before of the tied ones
    pub record Tying (x : ℕ) : Type 0 where
      pub taker : ℕ
      pub below_64 : taker < 64
      pub is_free : member free taker ≡ true
      pub is_tied_lem : is_tied done ran (givers taker) ≡ true
      pub is-giver : member (intersection (givers taker) ran) x ≡ true

    pub in-tying : (x : ℕ) → (member (candidates_of givers free done ran).tying x ≡ true) ↔ Tying x
    in-tying x = (
      λ h. let w = sums.0 h in
          let v = (and-eq-true_iff (is_tied done ran (givers w.0)) (member (intersection (givers w.0) ran) x)).0 w.2 in
          record { taker = w.0; below_64 = w.1.0; is_free = w.1.1; is_tied_lem = v.0; is-giver = v.1 },
      λ t. let v = (and-eq-true_iff (is_tied done ran (givers t.taker)) (member (intersection (givers t.taker) ran) x)).1 (t.is_tied_lem, t.is-giver) in
          sums.1 (t.taker, (t.below_64, t.is_free), v),
    )
      where
        sums : (member (candidates_of givers free done ran).tying x ≡ true)
            ↔ ((i : ℕ) × ((i < 64) × (member free i ≡ true)) × ((is_tied done ran (givers i) && member (intersection (givers i) ran) x) ≡ true))
        sums = in-sorted givers (λ c. c.tying) (λ i g x. is_tied done ran g && member (intersection g ran) x) sort-tying free x (member-empty x)

-- both are among the places of the slot
pub candidates-held : (A : Tables) (s : ℕ) (done ran : Set) (p : ℕ) → (member (candidates_at A s done ran).forced p ≡ true)
    ⊎ (member (candidates_at A s done ran).tied p ≡ true)
    → member (A.held s) p ≡ true
unfolding candidates_at
candidates-held A s done ran p o =
    ((in-minus (A.held s) (carried A s done) p).0
    (⊎_elim (λ f. ((in-forced done ran (A.prev s) free p).0 f).1) (λ t. ((in-tied done ran (A.prev s) free p).0 t).1) o)).0
  where
    free : Set
    free = minus (A.held s) (carried A s done)

-- ---- whatever the state: of the places of the slot

-- the row has just the candidates
pub in-row-at : (A : Tables) (s : ℕ) (c : Candidates) (p : ℕ) → Memᴰ p (row_at A s c) ↔ ((p < 64) × (member (able_of c) p ≡ true))
unfolding row_at
in-row-at A s c p = let w = in_row (A.who s) (members (able_of c)) p in let v = in_members (able_of c) p in (λ m. v.0 (w.0 m), λ z. w.1 (v.1 z))

-- the cap, or as many as fit
pub most-is : (cap : ℕ) (c : Candidates) → (most_of cap c ≤ cap) × (most_of cap c ≤ fit_of c)
    × ((m : ℕ) → m ≤ cap → m ≤ fit_of c → (cap ≤ m) ⊎ (fit_of c ≤ m) → m ≡ most_of cap c)
unfolding most_of
most-is cap c = by-choice (λ x. (x ≤ cap) × (x ≤ fit_of c) × ((m : ℕ) → m ≤ cap → m ≤ fit_of c → (cap ≤ m) ⊎ (fit_of c ≤ m) → m ≡ x)) (leb cap (fit_of c))
    (λ t. let l = (T-leb cap (fit_of c)).0 t in (omega arith, l, λ m a b o. ⊎_elim (λ e. omega arith) (λ e. omega arith) o))
    (λ n. let l : ¬ (cap ≤ fit_of c) = λ q. n ((T-leb cap (fit_of c)).1 q) in
    (omega arith, omega arith, λ m a b o. ⊎_elim (λ e. omega arith) (λ e. omega arith) o))
