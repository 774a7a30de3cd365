use Prim.Native.Nat.{suc, ◌<◌, ◌≤◌}
use Rattle.places.specs.Assign.{entering}
use Rattle.places.specs.Windows.{Windows}
use Rattle.seats.specs.Enter.{Given, Entered}
use Rattle.seats.proofs.seat_all.Given as goal

abbrev pub invariant-loop-slot : goal.invariant-loop-slot
invariant-loop-slot l = (W : Windows) → Given W l.jobs.rows.now l.jobs.release.now l.jobs.tail.now l.jobs.count l.jobs.limit
    → (l.slot < l.slots → Entered W (suc l.slot) (entering W l.slot) l.tables l.places l.givers)
    × (l.slots ≤ l.slot → Entered W l.slot (entering W l.slot) l.tables l.places l.givers)
