use Rattle.std.proofs.Common.{◌-◌}
use Rattle.slotstates.specs.Ranks.{times, RankedSoFar}
use Rattle.slotstates.proofs.ranks_in.Given as goal

abbrev pub invariant-loop-job : goal.invariant-loop-job
invariant-loop-job l = RankedSoFar (times l.starts l.release l.tail l.jobs l.limit) l.slot (l.jobs - l.job) l.ranks
