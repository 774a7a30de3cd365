-- A job's place stands in one set of a plan while its window is open, so its start is the slot of the window whose set has the place.
-- Assumes nothing.
use Rattle.std.specs.Prelude.{◌≡◌, true, false, length}
use Rattle.std.proofs.Math.Path.{refl, sym}
use Rattle.std.proofs.Common.{ap, ◌∙◌, inl, inr, ⊎_elim}
use mathlib.Core.List.{List, [], ◌∷◌, Memᴰ}
use Prim.Native.Nat.{ℕ, zero, suc, ◌+◌, ◌^◌, ◌≤◌, ◌<◌}
use native.Mathlib.Omega.{arith}
use Rattle.rules.specs.Basics.{at}
use Rattle.laws.specs.Tests.{by-choice}
use Rattle.jobset.specs.declared.Set.{Set}
use Rattle.jobset.specs.Sets.{member, empty, minus, set_at, is_subset}
use Rattle.jobset.specs.Membership.{in-union, in-minus}
use Rattle.jobset.specs.Tests.{absent, present}
use Rattle.dominance.specs.Placing.{place, length-place, place_out, place_in}
use Rattle.places.specs.Seats.{jobs_of, in-jobs}
use Rattle.places.specs.Windows.{Windows, held, in_held, in-held-before, Seats}
use Rattle.places.specs.Tables.{Tables, Shows}
use Rattle.places.specs.Rows.{chosen-in, in-places, picks, tried-number}
use Rattle.places.specs.Slot.{Candidates, carried, candidates_at, near_at, able_of, row_at, most_of, tries_at, in-forced, in-tied, in-row-at}
use Rattle.places.specs.Model.{Plan, slot_then, try_all, done_after, find, placed}
use Rattle.shortest.specs.Starts.{plan_of, plan-proper}

-- no set tried has what is done
tries-fresh : (A : Tables) (cap s : ℕ) (done ran S : Set) → Memᴰ S (tries_at A cap s done ran)
    → (p : ℕ) → member S p ≡ true → member (carried A s done) p ≡ false
unfolding tries_at able_of candidates_at
tries-fresh A cap s done ran S w p m =
    let r = tried-number (near_at A s ran) (row_at A s c) (most_of cap c) (2 ^ length (row_at A s c)) S w in
    let z = (in-places (picks (row_at A s c) r.number) p).0 (ap (λ (X : Set). member X p) (sym r.set_is) ∙ m) in
    let f = ⊎_elim (λ f. ((in-forced done ran (A.prev s) free p).0 f).1) (λ t. ((in-tied done ran (A.prev s) free p).0 t).1)
    ((in-union c.forced c.tied p).0 ((in-row-at A s c p).0 (chosen-in (row_at A s c) (record { bits = r.number }) p z)).1) in
    ((in-minus (A.held s) (carried A s done) p).0 f).1
  where
    c : Candidates
    c = candidates_at A s done ran

    free : Set
    free = minus (A.held s) (carried A s done)

-- a place that does not end between the slots b and e
module _ (A : Tables) (cap p b e : ℕ) (stays : (s : ℕ) → b < s → s < e → member (A.ends s) p ≡ false) where
  abbrev search : ℕ → ℕ → Set → Set → Plan
  search k s done ran = find A (tries_at A cap) k s done ran

  -- set j of a plan has the place
  abbrev HasPlace : List ℕ → ℕ → Type 0
  HasPlace sets j = member (set_at sets j) p ≡ true

  -- none of the sets from slot s on has it, up to slot e
  abbrev Clear : ℕ → Plan → Type 0
  Clear s plan = (j : ℕ) → j < length plan.sets → s + j < e → HasPlace plan.sets j → ⊥

  -- at most one of them has, from slot b on
  abbrev Alone : ℕ → Plan → Type 0
  Alone s plan = (j l : ℕ) → j < l → l < length plan.sets → b ≤ s + j → s + l < e → HasPlace plan.sets j → HasPlace plan.sets l → ⊥

  after : (s : ℕ) (done : Set) → b < s → s < e → member done p ≡ true → member (carried A s done) p ≡ true
  unfolding carried
  after s done h l m = (in-minus done (A.ends s) p).1 (m, stays s h l)

  clear-all : (s : ℕ) (go : Set → Plan) (Ss : List Set)
      → ((S : Set) → Memᴰ S Ss → (s < e → member S p ≡ true → ⊥) × Clear (suc s) (go S)) → Clear s (try_all go Ss)
  unfolding try_all slot_then
  clear-all s go [] f = λ j l. absurd (omega arith)
  clear-all s go (S ∷ Ss) f = by-choice (Clear s) (go S).ok (λ t. each) (λ t. clear-all s go Ss (λ R m. f R (Memᴰ.tail m)))
    where
      each : (j : ℕ) → j < suc (length (go S).sets) → s + j < e → HasPlace (S.bits ∷ (go S).sets) j → ⊥
      each zero l h = (f S (Memᴰ.head refl)).0 (omega arith)
      each (suc j) l h = (f S (Memᴰ.head refl)).1 j (omega arith) (omega arith)

  clear : (k s : ℕ) (done ran : Set) → b < s → member done p ≡ true → Clear s (search k s done ran)
  unfolding find
  clear zero s done ran h m = by-choice (Clear s) (is_subset (A.due s) done) (λ t j l. absurd (omega arith)) (λ t j l. absurd (omega arith))
  clear (suc k) s done ran h m = by-choice (Clear s) (is_subset (A.due s) done)
      (λ t. clear-all s (λ S. search k (suc s) (done_after A s done S) S) (tries_at A cap s done ran) (λ S w. (
        λ l z. present (member (carried A s done) p) (after s done h l m) (tries-fresh A cap s done ran S w p z),
        λ j l u. clear k (suc s) (done_after A s done S) S (omega arith)
            (unfold done_after in (in-union (carried A s done) S p).1 (inl (after s done h (omega arith) m))) j l u,
      )))
      (λ t j l. absurd (omega arith))

  alone-all : (s : ℕ) (go : Set → Plan) (Ss : List Set)
      → ((S : Set) → Memᴰ S Ss → (b ≤ s → member S p ≡ true → Clear (suc s) (go S)) × Alone (suc s) (go S)) → Alone s (try_all go Ss)
  unfolding try_all slot_then
  alone-all s go [] f = λ j l h u. absurd (omega arith)
  alone-all s go (S ∷ Ss) f = by-choice (Alone s) (go S).ok (λ t. each) (λ t. alone-all s go Ss (λ R m. f R (Memᴰ.tail m)))
    where
      each : (j l : ℕ) → j < l → l < suc (length (go S).sets) → b ≤ s + j → s + l < e
          → HasPlace (S.bits ∷ (go S).sets) j → HasPlace (S.bits ∷ (go S).sets) l → ⊥
      each j zero h u v w x y = omega arith
      each zero (suc l) h u v w x y = (f S (Memᴰ.head refl)).0 (omega arith) x l (omega arith) (omega arith) y
      each (suc j) (suc l) h u v w x y = (f S (Memᴰ.head refl)).1 j l (omega arith) (omega arith) (omega arith) (omega arith) x y

  alone : (k s : ℕ) (done ran : Set) → Alone s (search k s done ran)
  unfolding find
  alone zero s done ran = by-choice (Alone s) (is_subset (A.due s) done) (λ t j l h u. absurd (omega arith)) (λ t j l h u. absurd (omega arith))
  alone (suc k) s done ran = by-choice (Alone s) (is_subset (A.due s) done)
      (λ t. alone-all s (λ S. search k (suc s) (done_after A s done S) S) (tries_at A cap s done ran) (λ S w. (
        λ h z. clear k (suc s) (done_after A s done S) S (omega arith) (unfold done_after in (in-union (carried A s done) S p).1 (inr z)),
        alone k (suc s) (done_after A s done S) S,
      )))
      (λ t j l h u. absurd (omega arith))

-- ---- so it is the start

module _ (W : Windows) (π : ℕ → ℕ) (i : ℕ) where
  -- the jobs of a set of slot s
  abbrev jobs_at : ℕ → ℕ → List ℕ
  jobs_at s x = jobs_of π (held W s) (record { bits = x })

  -- the set of slot s + j has job i
  abbrev Has : List ℕ → ℕ → ℕ → Type 0
  Has sets s j = Memᴰ i (jobs_of π (held W (s + j)) (set_at sets j))

  -- a job that no set has keeps its entry
  pub placed-keeps : (sets : List ℕ) (s : ℕ) (t : List ℕ) → ((l : ℕ) → l < length sets → Memᴰ i (jobs_of π (held W (s + l)) (set_at sets l)) → ⊥)
      → at (placed W π s sets t) i ≡ at t i
  unfolding placed
  placed-keeps [] s t f = refl
  placed-keeps (x ∷ xs) s t f =
      placed-keeps xs (suc s) (place s (jobs_at s x) t) (λ l h m. let q : suc s + l ≡ s + suc l = omega arith in f (suc l) (omega arith) (rw q at m))
      ∙ place_out s (jobs_at s x) t i (λ m. let q : s + 0 ≡ s = omega arith in f 0 (omega arith) (rw q m))

  -- the last set that has it says where it starts
  placed-last : (sets : List ℕ) (s : ℕ) (t : List ℕ) (j : ℕ) → i < length t → j < length sets → Has sets s j
      → ((l : ℕ) → j < l → l < length sets → Has sets s l → ⊥) → at (placed W π s sets t) i ≡ s + j
  unfolding placed
  placed-last [] s t j h l m f = absurd (omega arith)
  placed-last (x ∷ xs) s t zero h l m f =
      let q : s + 0 ≡ s = omega arith in
      placed-keeps xs (suc s) (place s (jobs_at s x) t)
      (λ z u w. let r : suc s + z ≡ s + suc z = omega arith in f (suc z) (omega arith) (omega arith) (rw r at w))
      ∙ place_in s (jobs_at s x) t i h (rw q at m) ∙ sym q
  placed-last (x ∷ xs) s t (suc j) h l m f =
      let q : suc s + j ≡ s + suc j = omega arith in
      placed-last xs (suc s) (place s (jobs_at s x) t) j (omega (arith, length-place s (jobs_at s x) t)) (omega arith) (rw q m)
      (λ z a u w. let r : suc s + z ≡ s + suc z = omega arith in f (suc z) (omega arith) (omega arith) (rw r at w)) ∙ q

module _ (W : Windows) (Z : Seats W) (C : ℕ) (A : Tables) (sh : Shows W Z C A) (cap : ℕ) where
  abbrev sets : List ℕ
  sets = (plan_of A cap C).sets

  -- of the slots of a job's window at most one has its place
  pub once-in-window : (i j l : ℕ) → Memᴰ i (held W j) → Memᴰ i (held W l) → j < l → l < length (plan_of A cap C).sets
      → member (set_at (plan_of A cap C).sets j) (Z.place i) ≡ true → member (set_at (plan_of A cap C).sets l) (Z.place i) ≡ true → ⊥
  once-in-window i j l a c h u = alone A cap (Z.place i) (W.r i) (suc l)
      (λ s x y. absent (member (A.ends s) (Z.place i)) (λ m. omega (arith, to s x (omega arith) m, ((in_held W l i).0 c).2)))
      C 0 empty empty j l h u (omega (arith, ((in_held W j i).0 a).1)) (omega arith)
    where
      to : (s : ℕ) → W.r i < s → s ≤ l → member (A.ends s) (Z.place i) ≡ true → W.d i ≡ s
      to s x y m =
          let v = (in_held W l i).0 c in
          (sh.ends_is s (omega (arith, (plan-proper W Z C A sh cap).short))).to i ((in-held-before W s i).1 (v.0, x, omega (arith, v.2))) m

  -- a slot of the job's window whose set has its place is the start that the plan gives
  pub start_is : (i j : ℕ) (t : List ℕ) → i < length t → Memᴰ i (held W j) → j < length (plan_of A cap C).sets
      → member (set_at (plan_of A cap C).sets j) (Z.place i) ≡ true
      → at (placed W Z.place 0 (plan_of A cap C).sets t) i ≡ j
  start_is i j t l m u e =
      let z : 0 + j ≡ j = omega arith in
      placed-last W Z.place i sets 0 t j l u (rw z ((in-jobs Z.place (held W j) (set_at sets j) i).1 (m, e)))
      (λ k a b w.
      let q : 0 + k ≡ k = omega arith in
      let v = (in-jobs Z.place (held W k) (set_at sets k) i).0 (rw q at w) in
      once-in-window i j k m v.0 a b e v.1) ∙ z
