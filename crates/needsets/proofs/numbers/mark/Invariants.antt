use Rattle.needsets.specs.Marks.{is_ready}
use Rattle.needsets.specs.MarkLaws.{BitsSoFar}
use Rattle.needsets.proofs.numbers.mark.Given as goal

abbrev pub invariant-loop-job : goal.invariant-loop-job
invariant-loop-job l = BitsSoFar (is_ready l.jobs l.number l.marked) l.jobs l.job l.next
