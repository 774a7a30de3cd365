use Rattle.releases.specs.Counted.{CountedTo}
use Rattle.releases.proofs.count_givers.Given as goal

abbrev pub invariant-loop-giver : goal.invariant-loop-giver
invariant-loop-giver l = CountedTo l.rows l.jobs l.giver l.waits
