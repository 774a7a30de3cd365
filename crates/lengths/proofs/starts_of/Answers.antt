-- `lengths::starts_of` meets its contract. Assumes nothing.
use mathlib.Core.Path.{◌≡◌, sym, ap, ◌∙◌}
use Prim.Native.Nat.{ℕ}
use native.Mathlib.Numerals.{add-one}
use native.Mathlib.Omega.{arith}
use Rattle.jobset.specs.declared.Set.{Set}
use Rattle.jobset.specs.Sets.{set_at}
use Rattle.layout.specs.Layout.{tables_in}
use Rattle.dominance.specs.Placing.{place}
use Rattle.shortest.specs.Starts.{jobs_up}
use Rattle.lengths.specs.Starting.{slot_turn, slots-start, slots_end}
use Rattle.lengths.proofs.starts_of.Goals as goal
use Rattle.lengths.proofs.starts_of.Goals.{After-of_byte}

-- the set of the slot
set_is : (c : After-of_byte) → c.of_byte.result ≡ set_at c.args.path.now c.loop-slot.slot
set_is c = ap (λ (x : ℕ). record { bits = x }) c.of_byte.ensures.0

pub start_all-requires : goal.start_all-requires
start_all-requires c =
    let p = c.requires in
    (omega arith, rw (set_is (goal.at.start_all-requires c).After-of_byte) (p.2 c.loop-slot.slot c.loop-slot-test.true))

pub loop-slot-preserved : goal.loop-slot-preserved
loop-slot-preserved c =
    let l = c.loop-slot in
    let a = c.args in
    let p = c.requires in
    let e = set_is (goal.at.loop-slot-preserved c).After-of_byte in
    rw add-one (slot_turn (tables_in a.tables.now) l.slot a.slots a.path.now l.starts _ c.loop-slot-test.true (omega arith)
    (c.start_all.ensures ∙ ap (λ (S : Set). place l.slot (jobs_up ((tables_in a.tables.now).who l.slot) S) l.starts) e)
    ∙ l.invariant)

pub returns : goal.returns
returns c =
    let l = c.loop-slot in
    let a = c.args in
    sym (slots_end (tables_in a.tables.now) l.slot a.slots a.path.now l.starts c.loop-slot-test.false) ∙ l.invariant
    ∙ slots-start (tables_in a.tables.now) a.slots a.path.now a.starts.now
