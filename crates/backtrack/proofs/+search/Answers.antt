-- The functions of `backtrack` that call each other meet their contracts. Assumes nothing.
use Rattle.std.proofs.Common.{◌≡◌, true, false, suc, subst, ◌∷◌, Some, ◌+◌, ◌-◌, ◌^◌, ◌<◌, ◌≤◌, ℕ, Bool, List, refl, sym, ap, ◌∙◌, arith}
use Rattle.std.proofs.Math.Path.{ap₂}
use Rattle.std.proofs.Math.Pow.{pow_mono}
use borrow.Author.Tests.{ltb-false}
use Rattle.rules.specs.Sizes.{max_limit, max_width}
use Rattle.rules.specs.Basics.{at, choose}
use Rattle.jobset.specs.declared.Set.{Set}
use Rattle.jobset.specs.Sets.{set_at, empty, union, minus, is_subset, is_empty, Subset}
use Rattle.bitmap.specs.Marks.{is_marked, with_mark}
use Rattle.places.specs.Rows.{bit-low, number-low, chosen, places_of, fitting}
use Rattle.places.specs.Slot.{carried, near_at, fit_of}
use Rattle.places.specs.Model.{key}
use Rattle.places.specs.Memo.{opening, Reached}
use Rattle.layout.specs.Layout.{tables_in, marks_in, place_sets, ends_at}
use Rattle.placesets.specs.declared.FallingNumbers.{FallingNumbers}
use Rattle.placesets.specs.Listing.{row_from}
use Rattle.placesets.specs.Numbers.{end_below, end_of, numbers_from, end-of-numbers, end-turn, Ended, ended-low, ended-many, ended-next, chosen-low}
use Rattle.placesets.specs.Picking.{picked_of, place_in, picked-places, picked-shared, picked_fits}
use Rattle.backtrack.specs.declared.Found.{Found}
use Rattle.backtrack.specs.declared.Choice.{Choice}
use Rattle.backtrack.specs.Entries.{slots_in, cap_in}
use Rattle.backtrack.specs.Sorting.{plain, found_at}
use Rattle.backtrack.specs.Choosing.{choice_of, row_of}
use Rattle.backtrack.specs.Search.{Searchable, Opened, InSlot, Takes, Told, written, must_at, explored_in, after, numbered, slot_tries}
use Rattle.backtrack.specs.Steps.{told_same, told_none, told-hit, told-miss, after-empty, reached-after, must-due}
use Rattle.backtrack.specs.Steps.{not-apart, not-must, tried-so, takes-held}
use Rattle.backtrack.specs.Steps.{Going, try_in, going_start, going-hit, going_on, going-down, going_end, first-numbers, takes_of}
use Rattle.backtrack.specs.States.{done-eight, ran-eight, key_fits, state-end, state-marked, state-open}
use Rattle.backtrack.specs.States.{here_in, found_in, able_in, in-slot, able-held, choice-held, fit-eight, sets-late, sets-one, sets-choice}
use Rattle.backtrack.proofs.+search.Goals as goal

-- a slot that is searched is one of the 64
low : {words : List ℕ} {bytes s : ℕ} {here : Set} → InSlot words bytes s here → s < max_limit
low i = omega (arith, i.below, i.can.few)

low-opened : {words : List ℕ} {bytes s : ℕ} {done ran : Set} → Opened words bytes s done ran → s < max_limit
low-opened o = omega (arith, o.below, o.can.few)

-- what the test of a set in a set says of two that are the same
tested : {m u must able : Set} {r : Bool} → m ≡ must → u ≡ able → r ≡ is_subset m u → is_subset must able ≡ r
tested m u e = rw (← m, ← u) (sym e)

-- ---- explore

-- a slot is left
opened : {words : List ℕ} {bytes s n : ℕ} {done ran : Set} → Searchable words bytes
    → Reached (tables_in words) (slots_in words) (slots_in words - s) s done ran → n ≡ slots_in words → (s ≡ n → ⊥)
    → Opened words bytes s done ran
opened m r e f = record { can = m; below = omega (arith, r.total); reached = r }

-- whether the state is marked
marked-is : (words : List ℕ) (s : ℕ) (done ran : Set) (dead : List ℕ) {k : ℕ} {r : Bool} → k ≡ key (marks_in words) s done ran
    → r ≡ is_marked dead k → is_marked dead (key (marks_in words) s done ran) ≡ r
marked-is words s done ran dead k e = rw (← k) (sym e)

-- it is opened
opened-is : {words : List ℕ} {bytes s : ℕ} {done ran : Set} (dead : List ℕ) {k : ℕ} → Opened words bytes s done ran
    → is_subset ((tables_in words).due s) done ≡ true → k ≡ key (marks_in words) s done ran
    → is_marked dead (key (marks_in words) s done ran) ≡ false
    → explored_in words s done ran dead ≡ opening k (slot_tries words s done ran dead)
opened-is dead o d k m = rw k (state-open o d dead m)

pub explore-returns-then-slot-from : goal.explore-returns-then-slot-from
unfolding written
explore-returns-then-slot-from t c =
    let a = c.args in
    rw (state-end a.tables.now a.slot a.done a.ran a.dead.now (c.if-slot-from.true ∙ c.from.ensures) c.requires.2)
    (record { found = refl; path = refl; dead = refl })

pub explore-key_of-key-requires : goal.explore-key_of-key-requires
explore-key_of-key-requires t c =
    let o = opened c.requires.0 c.requires.1 c.from.ensures c.if-slot-from.false in
    (omega (arith, low-opened o), done-eight o, ran-eight o, o.can.threes)

pub explore-marked-requires : goal.explore-marked-requires
explore-marked-requires t c =
    let o = opened c.requires.0 c.requires.1 c.from.ensures c.if-slot-from.false in rw c.key_of-key.ensures (key_fits o)

pub explore-returns-then-marked : goal.explore-returns-then-marked
unfolding written
explore-returns-then-marked t c =
    let a = c.args in
    let o = opened c.requires.0 c.requires.1 c.from.ensures c.if-slot-from.false in
    let m = marked-is a.tables.now a.slot a.done a.ran a.dead.now c.key_of-key.ensures c.marked.ensures in
    rw (state-marked o c.requires.2 a.dead.now (m ∙ c.if-marked.true)) (record { found = refl; path = refl; dead = refl })

pub explore-try_sets-requires : goal.explore-try_sets-requires
explore-try_sets-requires t c = (omega arith, opened c.requires.0 c.requires.1 c.from.ensures c.if-slot-from.false)

pub explore-returns-then-try_sets : goal.explore-returns-then-try_sets
unfolding opening choose
explore-returns-then-try_sets t c =
    let a = c.args in
    let o = opened c.requires.0 c.requires.1 c.from.ensures c.if-slot-from.false in
    let m = marked-is a.tables.now a.slot a.done a.ran a.dead.now c.key_of-key.ensures c.marked.ensures ∙ c.if-marked.false in
    let q = c.try_sets.ensures in
    rw (opened-is a.dead.now o c.requires.2 c.key_of-key.ensures m, sym q.found ∙ c.if-try_sets.true)
    (record { found = refl; path = q.path-is; dead = q.dead-is })

pub explore-mark-requires : goal.explore-mark-requires
explore-mark-requires t c =
    let o = opened c.requires.0 c.requires.1 c.from.ensures c.if-slot-from.false in
    omega (arith, c.key_of-key.ensures, key_fits o, c.try_sets.auto.dead)

pub explore-returns : goal.explore-returns
unfolding opening choose written
explore-returns t c =
    let a = c.args in
    let o = opened c.requires.0 c.requires.1 c.from.ensures c.if-slot-from.false in
    let m = marked-is a.tables.now a.slot a.done a.ran a.dead.now c.key_of-key.ensures c.marked.ensures ∙ c.if-marked.false in
    let q = c.try_sets.ensures in
    rw (opened-is a.dead.now o c.requires.2 c.key_of-key.ensures m, sym q.found ∙ c.if-try_sets.false)
    (record {
      found = refl;
      path = q.path-is;
      dead = c.mark.ensures ∙ ap (λ (d : List ℕ). with_mark d c.key_of-key.result) q.dead-is;
    })

-- ---- try_sets

-- what of the state has its window still open in the slot
here-is : (words : List ℕ) (slot : ℕ) (done : Set) {e h : Set} → e ≡ set_at words (ends_at + slot) → h ≡ minus done e → h ≡ here_in words slot done
unfolding carried tables_in
here-is words slot done p q = q ∙ ap (minus done) p

module _ (words : List ℕ) (slot : ℕ) (done ran : Set) where
  -- the candidates are those of the slot
  found-is : {here : Set} {x : Found} → here ≡ here_in words slot done → x ≡ found_at (tables_in words) slot here done ran
      → x ≡ found_in words slot done ran
  found-is h e = e ∙ ap (λ (y : Set). found_at (tables_in words) slot y done ran) h

  able-is : {x : Found} {u : Set} → x ≡ found_in words slot done ran → u ≡ union x.forced x.tied → u ≡ able_in words slot done ran
  able-is f e = e ∙ ap (λ (x : Found). union x.forced x.tied) f

  -- what must run in the slot
  must-is : {here due m : Set} → here ≡ here_in words slot done → due ≡ (tables_in words).due (slot + 1) → m ≡ minus due here
      → m ≡ must_at words slot (here_in words slot done)
  must-is h d e = e ∙ ap₂ minus d h

pub try_sets-returns-then-not-is_subset : goal.try_sets-returns-then-not-is_subset
unfolding tables_in
try_sets-returns-then-not-is_subset t c =
    let a = c.args in
    let h = here-is a.tables.now a.slot a.done c.set_at.ensures c.minus-here.ensures in
    let f = found-is a.tables.now a.slot a.done a.ran h c.candidates_at-c.ensures in
    let u = able-is a.tables.now a.slot a.done a.ran f c.union-able.ensures in
    let m = must-is a.tables.now a.slot a.done a.ran h c.set_at-due.ensures c.minus-must.ensures in
    told_none (sets-late c.requires a.dead.now
    (tested m u c.is_subset.ensures ∙ c.if-not-is_subset.true))

pub try_sets-exceeds-requires : goal.try_sets-exceeds-requires
try_sets-exceeds-requires t c =
    let a = c.args in
    let h = here-is a.tables.now a.slot a.done c.set_at.ensures c.minus-here.ensures in
    rw (found-is a.tables.now a.slot a.done a.ran h c.candidates_at-c.ensures) (fit-eight c.requires)

pub try_sets-try_set-requires : goal.try_sets-try_set-requires
unfolding tables_in
try_sets-try_set-requires t c =
    let a = c.args in
    let h = here-is a.tables.now a.slot a.done c.set_at.ensures c.minus-here.ensures in
    let f = found-is a.tables.now a.slot a.done a.ran h c.candidates_at-c.ensures in
    let u = able-is a.tables.now a.slot a.done a.ran f c.union-able.ensures in
    let m = must-is a.tables.now a.slot a.done a.ran h c.set_at-due.ensures c.minus-must.ensures in
    let k = tested m u c.is_subset.ensures ∙ c.if-not-is_subset.false in
    (omega arith, rw (h, u) (in-slot c.requires, able-held c.requires, k))

pub try_sets-returns-then-not-exceeds : goal.try_sets-returns-then-not-exceeds
try_sets-returns-then-not-exceeds t c =
    let a = c.args in
    let h = here-is a.tables.now a.slot a.done c.set_at.ensures c.minus-here.ensures in
    let f = found-is a.tables.now a.slot a.done a.ran h c.candidates_at-c.ensures in
    let u = able-is a.tables.now a.slot a.done a.ran f c.union-able.ensures in
    let n = ap (λ (x : Found). is_empty x.shared) (sym f) ∙ sym c.is_empty.ensures ∙ c.if-is_empty.true in
    let l = ltb-false (cap_in a.tables.now) (fit_of (plain c.candidates_at-c.result)) (sym c.exceeds.ensures ∙ c.if-not-exceeds.true) in
    told_same (sets-one c.requires a.dead.now n (rw f at l)) (rw (h, u) at c.try_set.ensures)

pub try_sets-choice_of-requires : goal.try_sets-choice_of-requires
try_sets-choice_of-requires t c =
    let a = c.args in
    let h = here-is a.tables.now a.slot a.done c.set_at.ensures c.minus-here.ensures in
    rw (found-is a.tables.now a.slot a.done a.ran h c.candidates_at-c.ensures) (fit-eight c.requires)

pub try_sets-try_row-requires : goal.try_sets-try_row-requires
unfolding tables_in
try_sets-try_row-requires t c =
    let a = c.args in
    let h = here-is a.tables.now a.slot a.done c.set_at.ensures c.minus-here.ensures in
    let f = found-is a.tables.now a.slot a.done a.ran h c.candidates_at-c.ensures in
    let m = must-is a.tables.now a.slot a.done a.ran h c.set_at-due.ensures c.minus-must.ensures in
    let k = choice-held c.requires in
    (omega arith, rw (h, c.choice_of.ensures ∙ ap (choice_of (cap_in a.tables.now)) f) (in-slot c.requires, m, k.0, k.1))

pub try_sets-returns : goal.try_sets-returns
try_sets-returns t c =
    let a = c.args in
    let h = here-is a.tables.now a.slot a.done c.set_at.ensures c.minus-here.ensures in
    let f = found-is a.tables.now a.slot a.done a.ran h c.candidates_at-c.ensures in
    rw (← (sets-choice c.requires a.dead.now))
    (rw (h, c.choice_of.ensures ∙ ap (choice_of (cap_in a.tables.now)) f) at c.try_row.ensures)

-- ---- try_row

-- what the code has after a try
tried : (words : List ℕ) (slot : ℕ) (here ran : Set) (c : Choice) (row : List ℕ) (size n : ℕ) (dead path₀ : List ℕ) {r : Bool} {path dead' : List ℕ}
    → size ≤ max_width → n < 2 ^ size
    → Told slot (numbered words slot here ran c (row_from row max_width) (record { bits = n }) dead) path₀ r path dead'
    → Told slot (try_in words slot here ran c (row_from row size) n dead) path₀ r path dead'
tried words slot here ran c row size n dead path₀ few l q = rw (chosen-low row size (record { bits = n }) few l) at q

-- a number of the row is that of a set of places
byte : (size n : ℕ) → size ≤ max_width → n < 2 ^ size → n < place_sets
byte size n few l = let h : 2 ^ size ≤ 2 ^ 8 = pow_mono few in omega arith

pub Slot::try_row-by_number-size-requires : goal.Slot::try_row-by_number-size-requires
unfolding Subset
Slot::try_row-by_number-size-requires t c =
    let i = c.requires.0 in (
      low i,
      refl,
      record {
        eight = λ p m. i.can.rows.eight c.args.self.index i.below p (c.requires.3 p m);
        apart = λ p q m n. i.can.apart c.args.self.index p q i.below (c.requires.3 p m) (c.requires.3 q n);
      },
    )

-- the end of the numbers left is at a turn one more than the number
ended : {count size : ℕ} {all : List Set} (x : Set) (rest : List Set) → all ≡ x ∷ rest → Ended count size (end_of all) → Ended count size (suc x.bits)
ended {count} {size} x rest e = subst (Ended count size) (ap end_of e)

pub Slot::try_row-loop-number-init : goal.Slot::try_row-loop-number-init
Slot::try_row-loop-number-init t c =
    let a = c.args in
    let size = c.by_number-size.result in
    let e : end_of (numbers_from c.into_iter-number-iterator.result.next) ≡ end_below a.c.count (2 ^ size)
    = ap (λ (x : FallingNumbers). end_of (numbers_from x.next)) c.into_iter-number-iterator.ensures.into_iter_gives ∙ ap end_of c.numbers-number-items.ensures
    ∙ end-of-numbers a.c.count (2 ^ size) in record {
      ended = record { below = 2 ^ size; within = omega arith; is-end = e };
      going = rw e going_start;
    }

pub Slot::try_row-try_number-requires : goal.Slot::try_row-try_number-requires
unfolding row_of
Slot::try_row-try_number-requires t c =
    let a = c.args in
    let i = c.requires.0 in
    let few = c.by_number-size.ensures.few in
    let v = c.loop-number.invariant in
    let n = c.in-Some.number.bits in
    let g = ended c.in-Some.number _ c.in-Some.ensures.steps v.ended in
    let l = ended-low g in (
      omega arith,
      (
        record { can = rw v.going.len i.can; below = i.below; inside = i.inside },
        c.requires.1,
        byte c.by_number-size.result n few l,
        takes_of (tables_in a.tables.now) a.self.index a.c c.by_number-size.new.row c.by_number-size.result few c.by_number-size.ensures.row_is
            n l (ended-many g) c.requires.2 c.requires.3,
      ),
    )

-- the tries by numbers so far and the next one
going : {words : List ℕ} {s : ℕ} {here ran : Set} {c : Choice} {row : List ℕ} {all : ℕ} {dead₀ path₀ dead path : List ℕ} {left : List Set}
    (x : Set) (rest : List Set) → left ≡ x ∷ rest → Going words s here ran c row all dead₀ path₀ dead path (end_of left)
    → Going words s here ran c row all dead₀ path₀ dead path (suc x.bits)
going {words} {s} {here} {ran} {c} {row} {all} {dead₀} {path₀} {dead} {path} x rest e =
    subst (Going words s here ran c row all dead₀ path₀ dead path) (ap end_of e)

pub Slot::try_row-returns-then-try_number : goal.Slot::try_row-returns-then-try_number
unfolding row_of
Slot::try_row-returns-then-try_number t c =
    let a = c.args in
    let few = c.by_number-size.ensures.few in
    let v = c.loop-number.invariant in
    let x = c.in-Some.number in
    let g = ended x _ c.in-Some.ensures.steps v.ended in
    let q = tried a.tables.now a.self.index a.self.here a.self.ran a.c c.by_number-size.new.row c.by_number-size.result x.bits c.loop-number.dead
    c.loop-number.path few (ended-low g) c.try_number.ensures in
    let e = going-hit (going x _ c.in-Some.ensures.steps v.going) (sym q.found ∙ c.if-try_number.true) in
    rw (← (first-numbers a.tables.now a.self.index a.self.here a.self.ran a.c c.by_number-size.new.row c.by_number-size.result few a.dead.now
    c.by_number-size.ensures.row_is))
    (rw (c.if-try_number.true, v.going.path-is) at (told_same e q))

pub Slot::try_row-loop-number-preserved : goal.Slot::try_row-loop-number-preserved
Slot::try_row-loop-number-preserved t c =
    let a = c.args in
    let few = c.by_number-size.ensures.few in
    let v = c.loop-number.invariant in
    let x = c.in-Some.number in
    let n = x.bits in
    let g = ended x _ c.in-Some.ensures.steps v.ended in
    let l = ended-low g in
    let q = tried a.tables.now a.self.index a.self.here a.self.ran a.c c.by_number-size.new.row c.by_number-size.result n c.loop-number.dead
    c.loop-number.path few l c.try_number.ensures in
    let d = going-down a.tables.now a.self.index a.self.here a.self.ran a.c c.by_number-size.new.row c.by_number-size.result few {n = n} (omega (arith, l))
    (going_on (going x _ c.in-Some.ensures.steps v.going) q c.if-try_number.false c.try_number.auto.dead) in
    let e = end-turn c.loop-number.number-iterator.next c.next.new.self.next x c.in-Some.ensures.steps in record {
      ended = ended-next g _ e;
      going = rw (e, ended-many g) d;
    }

pub Slot::try_row-returns : goal.Slot::try_row-returns
unfolding row_of
Slot::try_row-returns t c =
    let a = c.args in
    let v = c.loop-number.invariant in
    rw (
      ← (first-numbers a.tables.now a.self.index a.self.here a.self.ran a.c c.by_number-size.new.row c.by_number-size.result
          c.by_number-size.ensures.few a.dead.now c.by_number-size.ensures.row_is),
      v.going.path-is,
    ) (told_none (going_end (rw c.in-None.ensures.steps.0 at v.going)))

-- ---- try_number

-- the places that a number takes of a row, and the set that is tried
abbrev taken : List ℕ → Set → List ℕ
taken row number = chosen (row_from row max_width) number

abbrev places : Choice → List ℕ → Set → Set
places c row number = union c.forced (places_of (taken row number))

module _ (words : List ℕ) (slot : ℕ) (ran : Set) (c : Choice) (row : List ℕ) (number : Set) (small : number.bits < place_sets)
    (takes : Takes ((tables_in words).held slot) c (taken row number)) where
  -- what is near each place
  abbrev near : ℕ → Set
  near = near_at (tables_in words) slot ran

  module _ {picked : Set} (p : picked_of near row number ≡ Some picked) where
    -- where the code goes on no two share a giver
    fits : fitting near empty (taken row number) ≡ true
    fits = picked_fits near row number small takes.distinct picked p

    places-are : {u : Set} → u ≡ union c.forced picked → u ≡ places c row number
    places-are e =
        let z : Some picked ≡ Some (places_of (taken row number)) = sym p ∙ picked-places near row number small takes.distinct fits in
        let w : picked ≡ places_of (taken row number) = cc in
        e ∙ ap (union c.forced) w

pub Slot::try_number-pick-requires : goal.Slot::try_number-pick-requires
Slot::try_number-pick-requires t c =
    let a = c.args in
    let i = c.requires.0 in
    let takes = c.requires.3 in (
      omega (arith, low i),
      λ k m. (
        bit-low a.number 8 k c.requires.2 m,
        let w = place_in (near_at (tables_in a.tables.now) a.self.index a.self.ran) a.row.now a.number c.requires.2 takes.distinct k m in
            omega (arith, i.can.rows.eight a.self.index i.below (at a.row.now k) (takes.places-held (at a.row.now k) w)),
      ),
    )

pub Slot::try_number-returns-in_default : goal.Slot::try_number-returns-in_default
Slot::try_number-returns-in_default t c =
    let a = c.args in
    let near = near_at (tables_in a.tables.now) a.self.index a.self.ran in
    told_none (not-apart (after a.tables.now a.self.index a.self.here) near (must_at a.tables.now a.self.index a.self.here) a.c
    (taken a.row.now a.number) a.dead.now (picked-shared near a.row.now a.number c.requires.2 c.requires.3.distinct (sym c.pick.ensures ∙ c.in_default.is)))

pub Slot::try_number-returns-then-not-is_subset : goal.Slot::try_number-returns-then-not-is_subset
Slot::try_number-returns-then-not-is_subset t c =
    let a = c.args in
    let s = sym c.pick.ensures ∙ c.in-Some.is in
    let p = places-are a.tables.now a.self.index a.self.ran a.c a.row.now a.number c.requires.2 c.requires.3 s c.union-places.ensures in
    let h = tested c.requires.1 p c.is_subset.ensures in
    told_none (not-must (after a.tables.now a.self.index a.self.here) (near_at (tables_in a.tables.now) a.self.index a.self.ran)
    (must_at a.tables.now a.self.index a.self.here) a.c (taken a.row.now a.number) a.dead.now (h ∙ c.if-not-is_subset.true))

pub Slot::try_number-try_set-requires : goal.Slot::try_number-try_set-requires
Slot::try_number-try_set-requires t c =
    let a = c.args in
    let s = sym c.pick.ensures ∙ c.in-Some.is in
    let p = places-are a.tables.now a.self.index a.self.ran a.c a.row.now a.number c.requires.2 c.requires.3 s c.union-places.ensures in
    let h = tested c.requires.1 p c.is_subset.ensures in
    (omega arith, rw p (c.requires.0, takes-held c.requires.3, h ∙ c.if-not-is_subset.false))

pub Slot::try_number-returns : goal.Slot::try_number-returns
Slot::try_number-returns t c =
    let a = c.args in
    let s = sym c.pick.ensures ∙ c.in-Some.is in
    let p = places-are a.tables.now a.self.index a.self.ran a.c a.row.now a.number c.requires.2 c.requires.3 s c.union-places.ensures in
    let h = tested c.requires.1 p c.is_subset.ensures in
    let f = fits a.tables.now a.self.index a.self.ran a.c a.row.now a.number c.requires.2 c.requires.3 s in
    let e = tried-so (after a.tables.now a.self.index a.self.here) (near_at (tables_in a.tables.now) a.self.index a.self.ran)
    (must_at a.tables.now a.self.index a.self.here) a.c (taken a.row.now a.number) a.dead.now f c.requires.3.many (h ∙ c.if-not-is_subset.false) in
    rw (← e, ← p) c.try_set.ensures

-- ---- try_set

-- what the call gave
child : (words : List ℕ) (slot : ℕ) (here S : Set) (dead path₀ : List ℕ) {u : Set} {r : Bool} {path dead' : List ℕ} → u ≡ union here S
    → r ≡ (explored_in words (slot + 1) u S dead).plan.ok → path ≡ written (slot + 1) (explored_in words (slot + 1) u S dead).plan.sets path₀
    → dead' ≡ (explored_in words (slot + 1) u S dead).dead
    → Told (slot + 1) (after words slot here S dead) path₀ r path dead'
unfolding after
child words slot here S dead path₀ e f p d = rw (← e) (record { found = f; path-is = p; dead-is = d })

pub Slot::try_set-explore-requires : goal.Slot::try_set-explore-requires
Slot::try_set-explore-requires t c =
    let a = c.args in
    let i = c.requires.0 in (
      omega (arith, low i),
      rw c.union.ensures (
        i.can,
        reached-after a.places i c.requires.1,
        must-due a.tables.now a.self.index a.self.here a.places c.requires.2,
      ),
    )

pub Slot::try_set-overflow_cast-path : goal.Slot::try_set-overflow_cast-path
unfolding Subset
Slot::try_set-overflow_cast-path t c =
    let i = c.requires.0 in
    let l = number-low c.args.places 8 (λ p m. i.can.rows.eight c.args.self.index i.below p (c.requires.1 p m)) in
    omega arith

pub Slot::try_set-returns-then-explore : goal.Slot::try_set-returns-then-explore
Slot::try_set-returns-then-explore t c =
    let a = c.args in
    let q = c.explore.ensures in
    told-hit a.self.index (after a.tables.now a.self.index a.self.here) a.places a.dead.now a.path.now
    (child a.tables.now a.self.index a.self.here a.places a.dead.now a.path.now c.union.ensures q.found q.path q.dead) c.if-explore.true

pub Slot::try_set-returns : goal.Slot::try_set-returns
Slot::try_set-returns t c =
    let a = c.args in
    let q = c.explore.ensures in
    told-miss a.self.index (after a.tables.now a.self.index a.self.here) a.places a.dead.now a.path.now
    (child a.tables.now a.self.index a.self.here a.places a.dead.now a.path.now c.union.ensures q.found q.path q.dead)
    (after-empty a.tables.now a.self.index a.self.here a.places a.dead.now) c.if-explore.false
