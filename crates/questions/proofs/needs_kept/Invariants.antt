use Rattle.std.specs.Prelude.{true, length}
use Rattle.laws.specs.Loops.{AllSoFar}
use Rattle.questions.specs.Questions.{row_kept}
use Rattle.questions.proofs.needs_kept.Given as goal

abbrev pub invariant-loop-giver : goal.invariant-loop-giver
invariant-loop-giver l = AllSoFar (row_kept l.rows l.start l.board) (length l.start) l.giver true
