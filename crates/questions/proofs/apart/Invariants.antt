use Rattle.std.specs.Prelude.{true, not, length}
use Rattle.laws.specs.Loops.{AllSoFar}
use Rattle.questions.specs.Questions.{shared}
use Rattle.questions.specs.QuestionLaws.{Taken}
use Rattle.questions.proofs.apart.Given as goal

abbrev pub invariant-loop-start : goal.invariant-loop-start
invariant-loop-start l =
    AllSoFar (λ j. not (shared l.start l.board j)) (length l.start) (length l.yielded) true × Taken l.start l.board (length l.yielded) l.taken
