-- `questions::labelled_row` meets its contract. Assumes nothing.
use Rattle.std.proofs.Common.{◌≡◌, ap, ap₂, ◌∙◌, arith, Bool, true, false, not, drop}
use Rattle.levels.specs.Levels.{rounded}
use Rattle.rules.specs.Table.{same_name}
use Rattle.laws.specs.Lists.{take_rest}
use Rattle.questions.specs.Loops.{same-is}
use Rattle.questions.specs.QuestionLaws.{other_name, level_by}
use Rattle.questions.proofs.labelled_row.Goals as goal
use Rattle.questions.proofs.labelled_row.Goals.{After-ne}

-- whether the names differ
differ : (c : After-ne) → c.ne.result ≡ not (same_name (drop 2 c.args.job.now) (drop 4 c.args.row.now))
differ c = c.ne.ensures ∙ ap not (same-is _ _ ∙ ap₂ same_name (take_rest 2 c.args.job.now) (take_rest 4 c.args.row.now))

same-not : (b r : Bool) → r ≡ not b → r ≡ false → b ≡ true
same-not true r e f = cc
same-not false r e f = cc

other-not : (b r : Bool) → r ≡ not b → r ≡ true → b ≡ false
other-not true r e f = cc
other-not false r e f = cc

pub returns-then-ne : goal.returns-then-ne
returns-then-ne c = other_name _ _ (other-not _ _ (differ (goal.at.returns-then-ne c).After-ne) c.if-ne.true)

pub returns : goal.returns
returns c =
    level_by _ _ (λ i. omega (arith, c.type_inv.job i)) (λ i. omega (arith, c.type_inv.row i))
    (same-not _ _ (differ (goal.at.returns c).After-ne) c.if-ne.false)
    _ _ (c.centimetres.ensures ∙ ap rounded c.word_at.ensures) c.word_at-2.ensures
