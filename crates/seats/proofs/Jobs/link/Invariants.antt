use Prim.Native.Nat.{◌-◌}
use Rattle.seats.specs.Links.{LinkedAll}
use Rattle.seats.proofs.Jobs.link.Given as goal

abbrev pub invariant-loop-job : goal.invariant-loop-job
invariant-loop-job l = LinkedAll l.self.release.now l.self.limit l.first l.next (l.self.count - l.job) l.job
