-- `questions::needs_kept` meets its contract. Assumes nothing.
use Rattle.std.proofs.Common.{sym, ◌∙◌}
use Rattle.laws.specs.Loops.{all_yes, all-no, all_end, all-failed}
use Rattle.questions.specs.Questions.{rows_kept}
use Rattle.questions.proofs.needs_kept.Goals as goal

pub returns-then-not-row_kept : goal.returns-then-not-row_kept
unfolding rows_kept
returns-then-not-row_kept c =
    all-failed (all-no c.loop-giver.invariant c.loop-giver-test.true (sym c.row_kept.ensures ∙ c.if-not-row_kept.true))

pub loop-giver-preserved : goal.loop-giver-preserved
loop-giver-preserved c = all_yes c.loop-giver.invariant c.loop-giver-test.true (sym c.row_kept.ensures ∙ c.if-not-row_kept.false)

pub returns : goal.returns
unfolding rows_kept
returns c = all_end c.loop-giver.invariant c.loop-giver-test.false
