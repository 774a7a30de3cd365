use Rattle.releases.specs.Tails.{TailsFrom}
use Rattle.releases.proofs.tails.Given as goal

abbrev pub invariant-loop-next : goal.invariant-loop-next
invariant-loop-next l = TailsFrom l.rows l.jobs l.order l.next l.tail
