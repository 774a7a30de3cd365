use Rattle.releases.specs.Peels.{peel_of}
use Rattle.releases.specs.Peeling.{Peeling}
use Rattle.releases.proofs.peel.Given as goal

abbrev pub invariant-loop-next : goal.invariant-loop-next
invariant-loop-next l = Peeling l.rows l.jobs l.next (peel_of l.release l.waits l.order l.count)
