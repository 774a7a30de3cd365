use Rattle.std.specs.Prelude.{true, length}
use Rattle.rules.specs.Basics.{at}
use Rattle.rules.specs.Fields.{value}
use Rattle.laws.specs.Loops.{AllSoFar}
use Rattle.questions.specs.Questions.{labelled_by}
use Rattle.questions.proofs.labelled.Given as goal

abbrev pub invariant-loop-job : goal.invariant-loop-job
invariant-loop-job l =
    AllSoFar (λ j. labelled_by (value l.file (at l.jobs j)) (value l.table (at l.rows j))) l.count (length l.yielded) true
