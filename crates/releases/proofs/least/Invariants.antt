use Rattle.std.proofs.Common.{◌≡◌}
use Rattle.releases.specs.Least.{least_of}
use Rattle.releases.proofs.least.Given as goal

abbrev pub invariant-loop-job : goal.invariant-loop-job
invariant-loop-job l = l.most ≡ least_of l.release l.tail l.job
