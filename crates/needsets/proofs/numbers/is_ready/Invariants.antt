use Rattle.std.proofs.Common.{true, not}
use Rattle.laws.specs.Loops.{AllSoFar}
use Rattle.needsets.specs.Marks.{waits_on}
use Rattle.needsets.proofs.numbers.is_ready.Given as goal

abbrev pub invariant-loop-giver : goal.invariant-loop-giver
invariant-loop-giver l = AllSoFar (λ g. not (waits_on l.jobs l.number l.marked l.job g)) l.jobs l.giver true
