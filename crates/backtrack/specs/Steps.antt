-- The search step by step, as the code meets it: at a state, at its sets, and at the numbers of a row. Assumes nothing.
use Rattle.std.proofs.Common.{eq-eqb, ◌∙◌, inl, inr, ⊎_elim, true≢false, add-one, arith}
use Rattle.std.specs.Prelude.{◌≡◌, ◌⊎◌, Bool, ◌&&◌, ℕ, zero, suc, ◌+◌, ◌-◌, ◌^◌, ◌≤◌, ◌<◌, eqb, length}
use Rattle.std.proofs.Math.Path.{refl, sym, ap}
use Rattle.std.proofs.Math.Bool.{true, false}
use mathlib.Core.List.{List, [], ◌∷◌, map}
use Rattle.std.proofs.Math.ListN.{set}
use Rattle.rules.specs.Sizes.{max_width}
use Rattle.rules.specs.Basics.{choose}
use Rattle.laws.specs.Tests.{by-choice}
use Rattle.jobset.specs.declared.Set.{Set}
use Rattle.jobset.specs.Sets.{member, empty, union, minus, is_subset, members, Subset}
use Rattle.jobset.specs.Membership.{in-union, in-minus}
use Rattle.jobset.specs.Inclusion.{is_subset_lem, right-subset-union, union-subset}
use Rattle.jobset.specs.Members.{in_members}
use Rattle.jobset.specs.Tests.{present, bool-ext}
use Rattle.bitmap.specs.Marks.{is_marked}
use Rattle.places.specs.Tables.{Tables}
use Rattle.places.specs.Rows.{in_row, row-distinct, chosen, chosen-in, chosen-distinct, picks, places_of, in-places, fitting, is_try, tried_below}
use Rattle.places.specs.Slot.{near_at, tries_at}
use Rattle.places.specs.Model.{Plan, no_plan, slot_then, Tries, done_after, key}
use Rattle.places.specs.Memo.{Explored, at_once, hit, miss_then, opening, explore_all, explored, empty-all, Reached}
use Rattle.places.specs.Fit.{members-distinct}
use Rattle.places.specs.Steps.{explored-late, one_hit, one-miss, Same, same-trans}
use Rattle.layout.specs.Layout.{tables_in, marks_in}
use Rattle.backtrack.specs.declared.Choice.{Choice}
use Rattle.backtrack.specs.Entries.{slots_in, cap_in}
use Rattle.backtrack.specs.Choosing.{row_of, sets_of}
use Rattle.placesets.specs.Listing.{row_from, row-length}
use Rattle.placesets.specs.Numbers.{digits_of, end_below, chosen-low, chosen-many, tried-end}
use Rattle.backtrack.specs.Search.{InSlot, Takes, Told, written, must_at, explored_in, after, attempt, places_try, numbered, choice_tries}

-- ---- answers

-- where two answers are the same the code gives both
pub told_same : {slot : ℕ} {x y : Explored} {path₀ : List ℕ} {r : Bool} {path dead : List ℕ} → Same x y → Told slot x path₀ r path dead
    → Told slot y path₀ r path dead
told_same {slot} {x} {y} {path₀} s t = record {
  found = t.found ∙ ap (λ (p : Plan). p.ok) s.plan;
  path-is = t.path-is ∙ ap (λ (p : Plan). written slot p.sets path₀) s.plan;
  dead-is = t.dead-is ∙ s.dead;
}

-- no plan: the path is as it was
pub told_none : {slot : ℕ} {e : Explored} {path₀ dead : List ℕ} → Same (at_once no_plan dead) e → Told slot e path₀ false path₀ dead
unfolding written
told_none s = told_same s (record { found = refl; path-is = refl; dead-is = refl })

-- an answer without a plan has no sets
abbrev Empty : Explored → Type 0
Empty e = e.plan.ok ≡ false → e.plan ≡ no_plan

explored-empty : (A : Tables) (base : ℕ → ℕ) (tries : Tries) (left s : ℕ) (done ran : Set) (dead : List ℕ) → Empty (explored A base tries left s done ran dead)
unfolding explored opening
explored-empty A base tries zero s done ran dead =
    by-choice (λ (p : Plan). p.ok ≡ false → p ≡ no_plan) (is_subset (A.due s) done) (λ d e. absurd (true≢false e)) (λ d e. refl)
explored-empty A base tries (suc left) s done ran dead =
    by-choice Empty (is_subset (A.due s) done)
    (λ d. by-choice Empty (is_marked dead (key base s done ran)) (λ m e. refl)
    (λ m. empty-all (λ S b. explored A base tries left (suc s) (done_after A s done S) S b) (tries s done ran) dead))
    (λ d e. refl)

pub after-empty : (words : List ℕ) (s : ℕ) (here S : Set) (dead : List ℕ) → (after words s here S dead).plan.ok ≡ false
    → (after words s here S dead).plan ≡ no_plan
unfolding after explored_in
after-empty words s here S dead =
    explored-empty (tables_in words) (marks_in words) (tries_at (tables_in words) (cap_in words)) (slots_in words - (s + 1)) (s + 1) (union here S) S dead

-- ---- one set

module _ (goes : Set → List ℕ → Explored) (S : Set) (dead : List ℕ) where
  attempt-hit : (goes S dead).plan.ok ≡ true → attempt goes S dead ≡ hit S (goes S dead)
  unfolding attempt choose
  attempt-hit e = rw e

  attempt-miss : (goes S dead).plan.ok ≡ false → attempt goes S dead ≡ at_once no_plan (goes S dead).dead
  unfolding attempt choose
  attempt-miss e = rw e

  attempt-empty : Empty (attempt goes S dead)
  unfolding attempt hit slot_then
  attempt-empty = by-choice Empty (goes S dead).plan.ok (λ o e. absurd (true≢false e)) (λ o e. refl)

  -- one set alone
  pub one-try : Same (attempt goes S dead) (explore_all goes (S ∷ []) dead)
  one-try = go (goes S dead).plan.ok refl
    where
      go : (b : Bool) → (goes S dead).plan.ok ≡ b → Same (attempt goes S dead) (explore_all goes (S ∷ []) dead)
      go true e = rw (attempt-hit e, one_hit goes S dead e) (record { plan = refl; dead = refl })
      go false e = rw (attempt-miss e) (one-miss goes S dead e)

-- what the code has after a set, from what it has after what follows
module _ (slot : ℕ) (goes : Set → List ℕ → Explored) (S : Set) (dead path₀ : List ℕ) {r : Bool} {path dead' : List ℕ}
    (t : Told (slot + 1) (goes S dead) path₀ r path dead') where
  pub told-hit : r ≡ true → Told slot (attempt goes S dead) path₀ true (set path slot S.bits) dead'
  unfolding hit slot_then written
  told-hit e = rw (attempt-hit goes S dead (sym t.found ∙ e)) (record {
    found = refl;
    path-is = ap (λ (l : List ℕ). set l slot S.bits) t.path-is;
    dead-is = t.dead-is;
  })

  pub told-miss : ((goes S dead).plan.ok ≡ false → (goes S dead).plan ≡ no_plan) → r ≡ false → Told slot (attempt goes S dead) path₀ false path dead'
  unfolding written
  told-miss f e =
      let o = sym t.found ∙ e in
      rw (attempt-miss goes S dead o) (record {
        found = refl;
        path-is = t.path-is ∙ ap (λ (p : Plan). written (slot + 1) p.sets path₀) (f o);
        dead-is = t.dead-is;
      })

-- ---- the places that a number takes

module _ (goes : Set → List ℕ → Explored) (near : ℕ → Set) (must : Set) (c : Choice) (ps : List ℕ) (dead : List ℕ) where
  -- whether the slot may have them, and whether they have what must run
  abbrev may : Bool
  may = is_try near c.count ps

  abbrev has : Bool
  has = is_subset must (union c.forced (places_of ps))

  no-try : (may && has) ≡ false → Same (at_once no_plan dead) (places_try goes near must c ps dead)
  unfolding places_try choose
  no-try e = rw e (record { plan = refl; dead = refl })

  right-false : (a b : Bool) → b ≡ false → (a && b) ≡ false
  right-false true b e = e
  right-false false b e = refl

  -- two share a giver
  pub not-apart : fitting near empty ps ≡ false → Same (at_once no_plan dead) (places_try goes near must c ps dead)
  unfolding is_try
  not-apart e = no-try (ap (λ (b : Bool). b && has) (right-false (eqb (length ps) c.count) (fitting near empty ps) e))

  -- they lack what must run
  pub not-must : is_subset must (union c.forced (places_of ps)) ≡ false → Same (at_once no_plan dead) (places_try goes near must c ps dead)
  not-must e = no-try (right-false may has e)

  -- else they are tried
  pub tried-so : fitting near empty ps ≡ true → length ps ≡ c.count → is_subset must (union c.forced (places_of ps)) ≡ true
      → attempt goes (union c.forced (places_of ps)) dead ≡ places_try goes near must c ps dead
  unfolding places_try is_try choose
  tried-so a n m = rw (eq-eqb (length ps) c.count n, a, m)

-- places of the slot
pub takes-held : {held : Set} {c : Choice} {ps : List ℕ} → Takes held c ps → Subset (union c.forced (places_of ps)) held
takes-held {held} {c} {ps} w =
    union-subset c.forced (places_of ps) held w.forced-held (unfold Subset in λ p m. w.places-held p ((in-places ps p).0 m))

-- ---- the numbers of a row

-- the tries by numbers below n, each with what is forced
unfoldable pub row_below : (Set → List ℕ → Explored) → (ℕ → Set) → Choice → List ℕ → ℕ → List ℕ → Explored
row_below goes near c row n dead = explore_all goes (map (union c.forced) (tried_below near row c.count n)) dead

module _ (goes : Set → List ℕ → Explored) (near : ℕ → Set) (must : Set) (c : Choice) (row : List ℕ) (n : ℕ) (dead : List ℕ) where
  -- the set of number n, and what it gives
  abbrev S : Set
  S = union c.forced (places_of (picks row n))

  abbrev given : Explored
  given = places_try goes near must c (picks row n) dead

  -- one that leads on ends the tries
  number-hit : (places_try goes near must c (picks row n) dead).plan.ok ≡ true
      → Same (places_try goes near must c (picks row n) dead) (row_below goes near c row (suc n) dead)
  unfolding places_try attempt row_below tried_below explore_all choose
  number-hit = go (is_try near c.count (picks row n)) refl (is_subset must S) refl (goes S dead).plan.ok refl
    where
      go : (a : Bool) → is_try near c.count (picks row n) ≡ a → (b : Bool) → is_subset must S ≡ b → (o : Bool) → (goes S dead).plan.ok ≡ o
          → given.plan.ok ≡ true
          → Same given (row_below goes near c row (suc n) dead)
      go true p true q true r h = rw (p, q, r) (record { plan = refl; dead = refl })
      go true p true q false r h = absurd (true≢false (sym h ∙ rw (p, q, r)))
      go true p false q o r h = absurd (true≢false (sym h ∙ rw (p, q)))
      go false p b q o r h = absurd (true≢false (sym h ∙ rw p))

  -- one that does not goes on to the next
  number-miss : (is_subset must (union c.forced (places_of (picks row n))) ≡ false
      → goes (union c.forced (places_of (picks row n))) dead ≡ at_once no_plan dead)
      → (places_try goes near must c (picks row n) dead).plan.ok ≡ false
      → Same (row_below goes near c row n (places_try goes near must c (picks row n) dead).dead) (row_below goes near c row (suc n) dead)
  unfolding places_try attempt row_below tried_below explore_all choose miss_then hit slot_then
  number-miss late = go (is_try near c.count (picks row n)) refl (is_subset must S) refl (goes S dead).plan.ok refl
    where
      go : (a : Bool) → is_try near c.count (picks row n) ≡ a → (b : Bool) → is_subset must S ≡ b → (o : Bool) → (goes S dead).plan.ok ≡ o
          → given.plan.ok ≡ false
          → Same (row_below goes near c row n given.dead) (row_below goes near c row (suc n) dead)
      go true p true q true r h = absurd (true≢false (rw (p, q, r) at h))
      go true p true q false r h = rw (p, q, r) (record { plan = refl; dead = refl })
      go true p false q o r h = rw (p, q, late q) (record { plan = refl; dead = refl })
      go false p b q o r h = rw p (record { plan = refl; dead = refl })

  number-empty : (places_try goes near must c (picks row n) dead).plan.ok ≡ false → (places_try goes near must c (picks row n) dead).plan ≡ no_plan
  unfolding places_try
  number-empty = by-choice Empty (is_try near c.count (picks row n) && is_subset must S) (λ _. attempt-empty goes S dead) (λ _ _. refl)

-- what is due is done after a set exactly if the set has what of it is not done before
must-here : (due here S : Set) → is_subset due (union here S) ≡ is_subset (minus due here) S
unfolding Subset
must-here due here S = bool-ext (is_subset due (union here S)) (is_subset (minus due here) S)
    (λ e. (is_subset_lem (minus due here) S).1 (λ p m. let w = (in-minus due here p).0 m in
    ⊎_elim (λ h. absurd (present (member here p) h w.1)) (λ h. h) ((in-union here S p).0 ((is_subset_lem due (union here S)).0 e p w.0))))
    (λ e. (is_subset_lem due (union here S)).1 (λ p m. (in-union here S p).1
    (go p (member here p) refl (λ n. (is_subset_lem (minus due here) S).0 e p ((in-minus due here p).1 (m, n))))))
  where
    go : (p : ℕ) (b : Bool) → member here p ≡ b → (member here p ≡ false → member S p ≡ true) → (member here p ≡ true) ⊎ (member S p ≡ true)
    go p true e f = inl e
    go p false e f = inr (f e)

module _ (words : List ℕ) (s : ℕ) (here S : Set) where
  -- a set that leaves out what must run is late at once
  pub after-late : (dead : List ℕ) → is_subset (must_at words s here) S ≡ false → after words s here S dead ≡ at_once no_plan dead
  unfolding after explored_in
  after-late dead e =
      explored-late (tables_in words) (marks_in words) (tries_at (tables_in words) (cap_in words)) (s + 1) (union here S) S dead (slots_in words - (s + 1))
      (must-here ((tables_in words).due (s + 1)) here S ∙ e)

  -- and after one that has it what is due is done
  pub must-due : is_subset (must_at words s here) S ≡ true → is_subset ((tables_in words).due (s + 1)) (union here S) ≡ true
  must-due e = must-here ((tables_in words).due (s + 1)) here S ∙ e

-- the state after the slot
pub reached-after : {words : List ℕ} {bytes s : ℕ} {here : Set} (S : Set) → InSlot words bytes s here → Subset S ((tables_in words).held s)
    → Reached (tables_in words) (slots_in words) (slots_in words - (s + 1)) (s + 1) (union here S) S
reached-after {words} {bytes} {s} {here} S i h = record {
  total = omega (arith, i.below);
  of-slot = rw (add-one s) (union-subset here S ((tables_in words).held s) i.inside h);
  included = right-subset-union here S;
}

-- ---- in the loop over the numbers

-- the tries of a slot by numbers below n
abbrev pub below_in : List ℕ → ℕ → Set → Set → Choice → List ℕ → ℕ → List ℕ → Explored
below_in words s here ran c row n dead = row_below (after words s here) (near_at (tables_in words) s ran) c row n dead

-- the try of number n
abbrev pub try_in : List ℕ → ℕ → Set → Set → Choice → List ℕ → ℕ → List ℕ → Explored
try_in words s here ran c row n dead = numbered words s here ran c row (record { bits = n }) dead

-- the tries from here on, with the bitmap as it is, answer as all tries by numbers below `all` with the bitmap at the start; the path is as it was
pub record Going (words : List ℕ) (s : ℕ) (here ran : Set) (c : Choice) (row : List ℕ) (all : ℕ) (dead₀ path₀ dead path : List ℕ) (n : ℕ) : Type 0 where
  pub len : length dead ≡ length dead₀
  pub path-is : path ≡ path₀
  pub same : Same (below_in words s here ran c row n dead) (below_in words s here ran c row all dead₀)

module _ {words : List ℕ} {s : ℕ} {here ran : Set} {c : Choice} {row : List ℕ} {all : ℕ} {dead₀ path₀ : List ℕ} where
  pub going_start : Going words s here ran c row all dead₀ path₀ dead₀ path₀ all
  going_start = record { len = refl; path-is = refl; same = record { plan = refl; dead = refl } }

  module _ {dead path : List ℕ} {n : ℕ} (g : Going words s here ran c row all dead₀ path₀ dead path (suc n)) where
    -- a number that leads on
    pub going-hit : (try_in words s here ran c row n dead).plan.ok ≡ true
        → Same (try_in words s here ran c row n dead) (below_in words s here ran c row all dead₀)
    going-hit h = same-trans (number-hit (after words s here) (near_at (tables_in words) s ran) (must_at words s here) c row n dead h) g.same

    -- one that does not, with what the code has after it
    pub going_on : {r : Bool} {path' dead' : List ℕ} → Told s (try_in words s here ran c row n dead) path r path' dead'
        → r ≡ false → length dead' ≡ length dead → Going words s here ran c row all dead₀ path₀ dead' path' n
    unfolding written
    going_on t e l =
        let goes = after words s here in
        let near = near_at (tables_in words) s ran in
        let late = after-late words s here (union c.forced (places_of (picks row n))) dead in
        let o : (try_in words s here ran c row n dead).plan.ok ≡ false = sym t.found ∙ e in
        record {
          len = l ∙ g.len;
          path-is = t.path-is ∙ ap (λ (p : Plan). written s p.sets path) (number-empty goes near (must_at words s here) c row n dead o) ∙ g.path-is;
          same = rw t.dead-is (same-trans (number-miss goes near (must_at words s here) c row n dead late o) g.same);
        }

  pub going_end : {dead path : List ℕ} → Going words s here ran c row all dead₀ path₀ dead path 0
      → Same (at_once no_plan dead) (below_in words s here ran c row all dead₀)
  unfolding row_below tried_below explore_all
  going_end g = g.same

-- all numbers of the row of a choice
all-numbers : (words : List ℕ) (s : ℕ) (here ran : Set) (c : Choice) (row : List ℕ) (dead : List ℕ) → row ≡ row_of (tables_in words) s c.among
    → below_in words s here ran c row (2 ^ length row) dead ≡ choice_tries words s here ran c dead
unfolding row_below choice_tries sets_of
all-numbers words s here ran c row dead e = rw e

-- the numbers with just as many digits 1 as the choice says are enough
module _ (words : List ℕ) (s : ℕ) (here ran : Set) (c : Choice) (a : List ℕ) (size : ℕ) (few : size ≤ max_width) where
  enough : (n : ℕ) (dead : List ℕ) → n ≤ 2 ^ size
      → below_in words s here ran c (row_from a size) (end_below c.count n) dead ≡ below_in words s here ran c (row_from a size) n dead
  unfolding row_below
  enough n dead l = rw (tried-end (near_at (tables_in words) s ran) a size c.count few n l)

  pub going-down : {all n : ℕ} {dead₀ path₀ dead path : List ℕ} → n ≤ 2 ^ size
      → Going words s here ran c (row_from a size) all dead₀ path₀ dead path n
      → Going words s here ran c (row_from a size) all dead₀ path₀ dead path (end_below c.count n)
  going-down {all} {n} {dead₀} {path₀} {dead} l g = record {
    len = g.len;
    path-is = g.path-is;
    same = rw (enough n dead l) g.same;
  }

  pub first-numbers : (dead : List ℕ) → row_from a size ≡ row_of (tables_in words) s c.among
      → below_in words s here ran c (row_from a size) (end_below c.count (2 ^ size)) dead ≡ choice_tries words s here ran c dead
  first-numbers dead e =
      enough (2 ^ size) dead (omega arith)
      ∙ ap (λ (k : ℕ). below_in words s here ran c (row_from a size) (2 ^ k) dead) (sym (row-length a size))
      ∙ all-numbers words s here ran c (row_from a size) dead e

-- what a number takes are places of the slot
module _ (A : Tables) (s : ℕ) (c : Choice) (a : List ℕ) (size : ℕ) (few : size ≤ max_width) (e : row_from a size ≡ row_of A s c.among) where
  pub takes_of : (n : ℕ) → n < 2 ^ size → digits_of n ≡ c.count → Subset c.forced (A.held s) → Subset c.among (A.held s)
      → Takes (A.held s) c (picks (row_from a max_width) n)
  unfolding row_of Subset
  takes_of n l many f among = record {
    forced-held = f;
    places-held = λ p m. among p ((in_members c.among p).0 ((in_row (A.who s) (members c.among) p).0
        (rw e at (chosen-in (row_from a size) x p (rw low at m))))).1;
    distinct = rw low (chosen-distinct (row_from a size) x (rw e (row-distinct (A.who s) (members c.among) (members-distinct c.among))));
    many = chosen-many a n ∙ many;
  }
    where
      x : Set
      x = record { bits = n }

      low : chosen (row_from a max_width) x ≡ chosen (row_from a size) x
      low = chosen-low a size x few l
