-- `slotboards::place_slots` meets its contract. Assumes nothing.
use Prim.Native.Nat.{ℕ, ◌<◌}
use mathlib.Core.List.{List}
use mathlib.Core.Path.{◌≡◌, sym, ◌∙◌}
use native.Mathlib.Omega.{arith}
use Rattle.layout.specs.Layout.{tables_in}
use Rattle.slotboards.specs.Turns.{slots-none, slots-turn, last_none, last_turn}
use Rattle.slotboards.specs.PlacingLaws.{slots-given}
use Rattle.slotboards.specs.SlotLaws.{Given, others-listable, others-fit}
use Rattle.slotboards.specs.Near.{here_in, last-in}
use Rattle.slotboards.specs.Placing.{place_slots, place_slot, blank, Plan}
use Rattle.slotboards.proofs.place_slots.Goals as goal
use Rattle.slotboards.proofs.place_slots.Goals.{In-loop-slot}

-- the plan, the slots given, and that one more slot is to come
plan : (c : In-loop-slot)
    → Plan c.requires.0.0 c.args.tables.now c.args.path.now c.args.slots
plan c = c.requires.0.1

few : (c : In-loop-slot) → c.loop-slot.slot < 64
few c = omega (arith, c.loop-slot-test.true, (plan c).able.slots-few)

abbrev before : (c : In-loop-slot) → List ℕ
before c = place_slots (tables_in c.args.tables.now) c.args.path.now c.loop-slot.slot blank

given : (c : In-loop-slot) → Given c.requires.0.0 (plan c).needs (plan c).starts c.loop-slot.slot (before c)
given c = slots-given (plan c) c.loop-slot.slot (omega arith)

pub loop-slot-init : goal.loop-slot-init
loop-slot-init c = (c.requires.1 ∙ sym (slots-none _ _ _), sym (last_none _))

pub jobs_of-jobs-requires : goal.jobs_of-jobs-requires
jobs_of-jobs-requires c = few (goal.at.jobs_of-jobs-requires c).In-loop-slot

pub inherit_all-z-requires : goal.inherit_all-z-requires
inherit_all-z-requires c =
    let l = c.loop-slot in
    let i = (goal.at.inherit_all-z-requires c).In-loop-slot in (
      few i,
      rw c.jobs_of-jobs.ensures (here_in (plan i) l.slot c.loop-slot-test.true),
      rw l.invariant.1 (last-in (plan i) l.slot c.loop-slot-test.true),
      rw l.invariant.0 (given i).small,
    )

pub take_lowest-requires : goal.take_lowest-requires
take_lowest-requires c =
    let l = c.loop-slot in
    let e = c.inherit_all-z.ensures in
    let i = (goal.at.take_lowest-requires c).In-loop-slot in (
      few i,
      rw (e.1, l.invariant.1, c.jobs_of-jobs.ensures) (others-listable (plan i) l.slot c.loop-slot-test.true (before i) (given i)),
      rw (e.0, e.1, l.invariant.1, l.invariant.0, c.jobs_of-jobs.ensures) (others-fit (plan i) l.slot c.loop-slot-test.true (before i) (given i)),
    )

pub loop-slot-preserved : goal.loop-slot-preserved
unfolding place_slot
loop-slot-preserved c =
    let l = c.loop-slot in
    let e = c.inherit_all-z.ensures in (
      rw (c.take_lowest.ensures, e.0, e.1, l.invariant.1, l.invariant.0, c.jobs_of-jobs.ensures) (slots-turn _ _ _ _),
      c.jobs_of-jobs.ensures ∙ last_turn _ _,
    )

pub returns : goal.returns
returns c =
    let e : c.loop-slot.slot ≡ c.args.slots = omega arith in
    rw e at c.loop-slot.invariant.0
