use Rattle.std.specs.Prelude.{length}
use Rattle.needrows.specs.Rows.{left_at}
use Rattle.questions.specs.Questions.{row_kept}
use Rattle.questions.specs.QuestionLaws.{KeptSoFar}
use Rattle.questions.proofs.row_kept.Given as goal

abbrev pub invariant-loop-taker : goal.invariant-loop-taker
invariant-loop-taker l =
    let s = l.taker-iterator in
    KeptSoFar l.start l.board l.giver (length l.start) (row_kept l.rows l.start l.board l.giver)
    (left_at s.rows.now s.giver s.last s.at s.here)
