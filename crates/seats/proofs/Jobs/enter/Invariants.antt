use Rattle.places.specs.Windows.{Windows}
use Rattle.seats.specs.Enter.{left_behind, Midway}
use Rattle.seats.specs.Slots.{Enters}
use Rattle.seats.proofs.Jobs.enter.Given as goal

abbrev pub invariant-loop-job : goal.invariant-loop-job
invariant-loop-job l =
    let j = l.self in
    let s = l.initial in
    (W : Windows) → Enters W j.rows.now j.release.now j.tail.now l.next j.count j.limit l.first l.slot s.tables s.places s.givers
    → Midway W l.next l.slot l.link l.tables l.places l.givers

abbrev pub decreases-loop-job : goal.decreases-loop-job
decreases-loop-job l = left_behind l.link
