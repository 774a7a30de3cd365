-- A state of the search, as the code meets it: its candidates and the sets that it tries, its key, and its answers. Assumes nothing.
use Rattle.std.specs.Prelude.{◌≡◌, ◌⊎◌, true, false, ltb}
use Rattle.std.proofs.Common.{sym, subst, ◌∙◌, inl, inr, arith}
use Rattle.std.proofs.Math.Path.{ap}
use mathlib.Core.List.{List, [], ◌∷◌, Memᴰ}
use Prim.Native.Nat.{ℕ, zero, suc, ◌+◌, ◌-◌, ◌*◌, ◌^◌, ◌≤◌, ◌<◌}
use Rattle.std.proofs.Math.ListN.{length}
use Rattle.rules.specs.Sizes.{max_width}
use Rattle.laws.specs.Tests.{by-choice}
use Rattle.jobset.specs.declared.Set.{Set}
use Rattle.jobset.specs.Sets.{member, empty, union, is_subset, is_empty, Subset}
use Rattle.jobset.specs.Membership.{member-empty, in-union, in-minus}
use Rattle.jobset.specs.Inclusion.{is_subset_lem, subset-trans, empty-subset}
use Rattle.jobset.specs.Tests.{absent, present}
use Rattle.bitmap.specs.Marks.{is_marked}
use Rattle.threes.specs.Threes.{Eight}
use Rattle.places.specs.Tables.{Tables}
use Rattle.places.specs.Rows.{chosen-in, picks, in-places, tried-number}
use Rattle.places.specs.Slot.{Candidates, carried, candidates_at, near_at, able_of, row_at, fit_of, most_of, tries_at, in-row-at, candidates-held}
use Rattle.places.specs.Model.{no_plan, finished, Tries, done_after, key}
use Rattle.places.specs.Memo.{Explored, at_once, opening, explore_all, explored, before, key-slot, base-le}
use Rattle.places.proofs.OneSet.{one_set}
use Rattle.places.specs.Steps.{following, explored-end, explored-marked, explored-open, all-late, Same}
use Rattle.layout.specs.Layout.{tables_in, marks_in}
use Rattle.backtrack.specs.declared.Found.{Found}
use Rattle.backtrack.specs.declared.Choice.{Choice}
use Rattle.backtrack.specs.Entries.{slots_in, cap_in}
use Rattle.backtrack.specs.Sorting.{plain, found_at, plain-found, not-shared}
use Rattle.backtrack.specs.Choosing.{choice_of, tries-choice, found-few}
use Rattle.backtrack.specs.Search.{Opened, InSlot, must_at, explored_in, after, attempt, choice_tries, slot_tries}
use Rattle.backtrack.specs.Steps.{after-late, one-try}

-- what is done before slot s of its places
abbrev pub here_in : List ℕ → ℕ → Set → Set
here_in words s done = carried (tables_in words) s done

-- its candidates
abbrev pub found_in : List ℕ → ℕ → Set → Set → Found
found_in words s done ran = found_at (tables_in words) s (carried (tables_in words) s done) done ran

abbrev pub able_in : List ℕ → ℕ → Set → Set → Set
able_in words s done ran = union (found_in words s done ran).forced (found_in words s done ran).tied

module _ {words : List ℕ} {bytes s : ℕ} {done ran : Set} (o : Opened words bytes s done ran) where
  abbrev A : Tables
  A = tables_in words

  abbrev here : Set
  here = here_in words s done

  abbrev found : Found
  found = found_in words s done ran

  before-eight : (z : ℕ) → z ≤ slots_in words → Eight (before A z)
  before-eight zero h p m = absurd (present (member empty p) m (member-empty p))
  before-eight (suc z) h p m = o.can.rows.eight z (omega arith) p m

  pub done-eight : Eight done
  unfolding Subset
  done-eight p m = before-eight s (omega (arith, o.below)) p (o.reached.of-slot p m)

  pub ran-eight : Eight ran
  unfolding Subset
  ran-eight p m = done-eight p (o.reached.included p m)

  ran-low : (p : ℕ) → member ran p ≡ true → p < 64
  ran-low p m = omega (arith, ran-eight p m)

  held-eight : Eight (A.held s)
  held-eight = o.can.rows.eight s o.below

  -- what is carried over are places of the slot
  pub in-slot : InSlot words bytes s (here_in words s done)
  unfolding carried Subset
  in-slot = record {
    can = o.can;
    below = o.below;
    inside = λ p m. let w = (in-minus done (A.ends s) p).0 m in
        o.can.rows.stay s o.below p ((in-minus (before A s) (A.ends s) p).1 (o.reached.of-slot p w.0, w.1));
  }

  -- so are the candidates
  candidate-held : (p : ℕ) → (member found.forced p ≡ true) ⊎ (member found.tied p ≡ true) → member (A.held s) p ≡ true
  candidate-held p m =
      candidates-held A s done ran p
      (subst (λ (x : Candidates). (member x.forced p ≡ true) ⊎ (member x.tied p ≡ true)) (plain-found A s done ran) m)

  pub able-held : Subset (able_in words s done ran) ((tables_in words).held s)
  unfolding Subset
  able-held p m = candidate-held p ((in-union found.forced found.tied p).0 m)

  pub choice-held : let c = choice_of (cap_in words) (found_in words s done ran) in
      Subset c.forced ((tables_in words).held s) × Subset c.among ((tables_in words).held s)
  unfolding choice_of
  choice-held = by-choice (λ (c : Choice). Subset c.forced (A.held s) × Subset c.among (A.held s)) (ltb (cap_in words) (fit_of (plain found)))
      (λ _. (empty-subset (A.held s), able-held))
      (λ _. (unfold Subset in λ p m. candidate-held p (inl m), unfold Subset in λ p m. candidate-held p (inr m)))

  pub fit-eight : fit_of (plain (found_in words s done ran)) ≤ max_width
  fit-eight = found-few A s done ran ran-low held-eight

  -- every set tried is one of candidates
  tries-able : (S : Set) → Memᴰ S (tries_at A (cap_in words) s done ran) → Subset S (able_in words s done ran)
  unfolding tries_at Subset able_of
  tries-able S w p m =
      let c = candidates_at A s done ran in
      let r = tried-number (near_at A s ran) (row_at A s c) (most_of (cap_in words) c) (2 ^ length (row_at A s c)) S w in
      let z = (in-places (picks (row_at A s c) r.number) p).0 (ap (λ (X : Set). member X p) (sym r.set_is) ∙ m) in
      ap (λ (x : Candidates). member (able_of x) p) (plain-found A s done ran)
      ∙ ((in-row-at A s c p).0 (chosen-in (row_at A s c) (record { bits = r.number }) p z)).1

  -- what must run is no candidate
  pub sets-late : (dead : List ℕ) → is_subset (must_at words s (here_in words s done)) (able_in words s done ran) ≡ false
      → Same (at_once no_plan dead) (slot_tries words s done ran dead)
  unfolding slot_tries
  sets-late dead e =
      all-late (after words s here) (tries_at A (cap_in words) s done ran) dead (λ S m. after-late words s here S dead (absent (is_subset must S) (lacks S m)))
    where
      must : Set
      must = must_at words s here

      lacks : (S : Set) → Memᴰ S (tries_at A (cap_in words) s done ran) → is_subset must S ≡ true → ⊥
      lacks S m h =
          let w = subset-trans must S (able_in words s done ran) ((is_subset_lem must S).0 h) (tries-able S m) in
          present (is_subset must (able_in words s done ran)) ((is_subset_lem must (able_in words s done ran)).1 w) e

  -- nothing branches
  pub sets-one : (dead : List ℕ) → is_empty (found_in words s done ran).shared ≡ true → fit_of (plain (found_in words s done ran)) ≤ cap_in words
      → Same (attempt (after words s (here_in words s done)) (able_in words s done ran) dead) (slot_tries words s done ran dead)
  unfolding slot_tries able_of
  sets-one dead n l =
      let e : tries_at A (cap_in words) s done ran ≡ able_in words s done ran ∷ [] =
      one_set A s done ran ran-low (not-shared A s done ran n) (cap_in words) (rw (plain-found A s done ran) at l)
      ∙ ap (λ (x : Candidates). able_of x ∷ []) (sym (plain-found A s done ran)) in
      rw e (one-try (after words s here) (able_in words s done ran) dead)

  -- else the sets of the choice
  pub sets-choice : (dead : List ℕ)
      → choice_tries words s (here_in words s done) ran (choice_of (cap_in words) (found_in words s done ran)) dead ≡ slot_tries words s done ran dead
  unfolding slot_tries choice_tries
  sets-choice dead = rw (tries-choice A (cap_in words) s done ran ran-low (λ p q. o.can.apart s p q o.below))

  -- the key is one of the bitmap's marks
  pub key_fits : key (marks_in words) s done ran < 8 * bytes
  key_fits =
      let k = key-slot A (marks_in words) (slots_in words) o.can.rows (slots_in words - s) s done ran (omega (arith, o.below)) o.reached in
      let z : slots_in words - suc s + suc s ≡ slots_in words = omega (arith, o.below) in
      let b = rw z at (base-le A (marks_in words) (slots_in words) o.can.rows (slots_in words - suc s) (suc s) (omega (arith, o.below))) in
      omega (arith, o.can.room)

  -- ---- its answer, where what is due is done

  module _ (d : is_subset ((tables_in words).due s) done ≡ true) (dead : List ℕ) where
    abbrev tries : Tries
    tries = tries_at (tables_in words) (cap_in words)

    -- the state is marked
    pub state-marked : is_marked dead (key (marks_in words) s done ran) ≡ true → explored_in words s done ran dead ≡ at_once no_plan dead
    unfolding explored_in
    state-marked m = explored-marked A (marks_in words) tries s done ran dead (slots_in words - s) (omega (arith, o.below)) d m

    follows : following A (marks_in words) tries (slots_in words - s) s done ≡ after words s here
    unfolding following after explored_in done_after
    follows = ap (λ (m : ℕ). λ (S : Set) (b : List ℕ). explored A (marks_in words) tries m (s + 1) (union here S) S b) (omega (arith, o.below))

    -- the state is opened
    pub state-open : is_marked dead (key (marks_in words) s done ran) ≡ false
        → explored_in words s done ran dead ≡ opening (key (marks_in words) s done ran) (slot_tries words s done ran dead)
    unfolding explored_in slot_tries
    state-open m =
        explored-open A (marks_in words) tries s done ran dead (slots_in words - s) (omega (arith, o.below)) d m
        ∙ ap (λ (goes : Set → List ℕ → Explored). opening (key (marks_in words) s done ran) (explore_all goes (tries s done ran) dead)) follows

-- no slot is left
pub state-end : (words : List ℕ) (s : ℕ) (done ran : Set) (dead : List ℕ) → s ≡ slots_in words → is_subset ((tables_in words).due s) done ≡ true
    → explored_in words s done ran dead ≡ at_once finished dead
unfolding explored_in
state-end words s done ran dead e d =
    let z : slots_in words - s ≡ 0 = omega arith in
    rw z (explored-end (tables_in words) (marks_in words) (tries_at (tables_in words) (cap_in words)) s done ran dead d)
