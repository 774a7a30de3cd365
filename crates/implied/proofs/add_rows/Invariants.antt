use Rattle.implied.specs.Reaching.{Filled}
use Rattle.implied.proofs.add_rows.Given as goal

abbrev pub invariant-loop-next : goal.invariant-loop-next
invariant-loop-next l = Filled l.takers l.jobs l.order l.initial.beyond l.next l.beyond
