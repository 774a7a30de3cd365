-- `seats::seat_all` meets its contract. Before each slot those that enter before it have entered. Assumes nothing.
use Rattle.std.proofs.Common.{◌≡◌, refl, ◌+◌, ◌-◌, ◌<◌, arith, add-one}
use Rattle.rules.specs.Basics.{at}
use Rattle.layout.specs.Layout.{tables_in}
use Rattle.places.specs.Assign.{entering}
use Rattle.places.specs.Windows.{Windows}
use Rattle.seats.specs.Enter.{Given, Entered, linked-entrants}
use Rattle.seats.specs.Rows.{bytes-few}
use Rattle.seats.specs.Slots.{Enters, none-entered, enter-carry, Slots, slots-are, seated-all}
use Rattle.seats.proofs.seat_all.Goals as goal
use Rattle.seats.proofs.seat_all.Goals.{At-loop-slot, In-loop-slot, In_ok-enter, at-In-loop-slot, at-In_ok-enter, then-slot-slots, else-slot-slots}

-- windows that the function is called for
abbrev Of : At-loop-slot → Windows → Type 0
Of c W = let a = c.args in Given W a.rows.now a.release.now a.tail.now a.jobs a.limit

-- the slots in which a job enters
slots-of : (c : At-loop-slot) (W : Windows) → Of c W → Slots W c.args.limit c.entries-slots.result
slots-of c W G =
    let p = c.requires in
    rw c.entries-slots.ensures (slots-are G p.0 p.1)

-- the slot is one of them, and below the limit
below : (c : In-loop-slot) (W : Windows) → Of (at-In-loop-slot c).At-loop-slot W → c.loop-slot.slot < c.args.limit
below c W G = omega (arith, c.loop-slot-test.true, (slots-of (at-In-loop-slot c).At-loop-slot W G).few)

-- so it fits the array
slot-fits : (c : In-loop-slot) → c.loop-slot.slot < 64
slot-fits c = let p = c.requires.4 in omega (arith, below c p.0 p.1, p.1.limit-fits)

-- what `enter` asks
asks : (c : In-loop-slot) (W : Windows) → Of (at-In-loop-slot c).At-loop-slot W
    → Enters W c.args.rows.now c.args.release.now c.args.tail.now c.link.new.next c.args.jobs
    c.args.limit (at c.link.new.first c.loop-slot.slot) c.loop-slot.slot c.loop-slot.tables c.loop-slot.places
    c.loop-slot.givers
asks c W G = record {
  given = G;
  below = below c W G;
  enters = omega (arith, c.loop-slot-test.true, (slots-of (at-In-loop-slot c).At-loop-slot W G).within);
  chain = linked-entrants c.link.new.next c.loop-slot.slot (at c.link.new.first c.loop-slot.slot) G
      (c.link.ensures.chain c.loop-slot.slot (below c W G));
  state = (c.loop-slot.invariant W G).0 c.loop-slot-test.true;
}

-- and what it gives
after : (c : In_ok-enter) (W : Windows) → Of (at-In-loop-slot (at-In_ok-enter c).In-loop-slot).At-loop-slot W
    → Entered W (c.loop-slot.slot + 1)
    (entering W (c.loop-slot.slot + 1)) c.enter.new.tables c.enter.new.places c.enter.new.givers
after c W G = rw (add-one c.loop-slot.slot) (c.in_ok-enter.ensures W (asks (at-In_ok-enter c).In-loop-slot W G))

pub link-requires : goal.link-requires
link-requires c = let g = c.requires.4.1 in (g.jobs-fit, g.limit-fits, refl, refl)

pub entries-slots-requires : goal.entries-slots-requires
entries-slots-requires c = c.requires.4.1.jobs-fit

pub loop-slot-init : goal.loop-slot-init
loop-slot-init c =
    let p = c.requires in
    let some = (slots-are p.4.1 p.0 p.1).some in
    λ W G. (
      λ h. rw (c.put_threes.ensures, p.2, p.3) (none-entered W (omega (arith, p.0, G.count))),
      λ h. absurd (omega (arith, c.entries-slots.ensures, some)),
    )

pub offset_bounds-first-slot : goal.offset_bounds-first-slot
offset_bounds-first-slot c = let b = slot-fits (goal.at.offset_bounds-first-slot c).In-loop-slot in omega arith

pub bounds-first-slot : goal.bounds-first-slot
bounds-first-slot c = slot-fits (goal.at.bounds-first-slot c).In-loop-slot

pub enter-requires : goal.enter-requires
enter-requires c =
    let p = c.requires.4 in
    (p.0, asks (goal.at.enter-requires c).In-loop-slot p.0 p.1)

pub returns-in_err-enter : goal.returns-in_err-enter
returns-in_err-enter c = λ W G. rw c.from_residual.ensures (c.in_err-enter.ensures W (asks (goal.at.returns-in_err-enter c).In-loop-slot W G))

pub carry-requires : goal.carry-requires
carry-requires c =
    let p = c.requires.4 in
    let E = after (goal.at.carry-requires c).In_ok-enter p.0 p.1 in
    let i = c.if-slot-slots.true in
    let few = (slots-of (goal.at.carry-requires c).At-loop-slot p.0 p.1).few in
    let limit = p.1.limit-fits in (
      omega arith,
      omega arith,
      omega (arith, E.rows.marks (c.loop-slot.slot + 1) (omega arith), bytes-few (tables_in c.enter.new.tables) (c.loop-slot.slot + 1)),
      (p.0.n, E.rows.small),
    )

pub loop-slot-preserved : goal.loop-slot-preserved
loop-slot-preserved c =
    let a = (goal.at.loop-slot-preserved c).In_ok-enter in
    elim c.if-slot-slots.branch [
      | then-slot-slots w ↦ λ W G.
          let few = (slots-of (goal.at.loop-slot-preserved c).At-loop-slot W G).few in (
            λ h. rw (w.tables-is, w.carry.ensures)
                (enter-carry G.leads (c.loop-slot.slot + 1 - 1) (omega arith) (omega (arith, few, G.limit-fits)) (after a W G)),
            λ h. absurd (omega (arith, w.if-slot-slots.true)),
          )
      | else-slot-slots w ↦ λ W G. (λ h. absurd (omega (arith, w.if-slot-slots.false)), λ h. rw w.tables-is (after a W G))
    ]

pub returns : goal.returns
returns c =
    let e : c.loop-slot.slot ≡ c.entries-slots.result = omega arith in
    λ W G.
    let E = (c.loop-slot.invariant W G).1 c.loop-slot-test.false in
    seated-all G.leads (slots-of (goal.at.returns c).At-loop-slot W G) (rw e at E)
