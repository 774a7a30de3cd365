-- `questions::late_enough` meets its contract. Assumes nothing.
use Rattle.std.proofs.Common.{eq-eqb, ne_eqb}
use Rattle.rules.specs.Basics.{choose}
use Rattle.questions.specs.Questions.{late_enough}
use Rattle.questions.proofs.late_enough.Goals as goal

pub returns-then-board-taker : goal.returns-then-board-taker
unfolding late_enough choose
returns-then-board-taker c = simp (eq-eqb _ _ c.if-board-taker.true, c.from-before.ensures, c.from-after.ensures)

pub returns : goal.returns
unfolding late_enough choose
returns c = simp (ne_eqb _ _ c.if-board-taker.false, c.from-before.ensures, c.from-after.ensures)
