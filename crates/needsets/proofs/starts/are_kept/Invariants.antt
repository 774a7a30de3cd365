use Rattle.std.proofs.Common.{◌*◌, true}
use Rattle.laws.specs.Loops.{AllSoFar}
use Rattle.needsets.specs.Starts.{keeps}
use Rattle.needsets.proofs.starts.are_kept.Given as goal

abbrev pub invariant-loop-place : goal.invariant-loop-place
invariant-loop-place l = AllSoFar (keeps l.jobs l.number l.starts) (l.jobs * l.jobs) l.place true
