-- `questions::row_kept` meets its contract: before each turn the takers that are still to come decide. Assumes nothing.
use Rattle.std.proofs.Common.{refl, sym, ◌∙◌}
use Rattle.questions.specs.Questions.{row_kept}
use Rattle.questions.specs.QuestionLaws.{taker-in, kept-no, kept_yes, kept_end}
use Rattle.questions.proofs.row_kept.Goals as goal

pub loop-taker-init : goal.loop-taker-init
unfolding row_kept
loop-taker-init c =
    rw (c.into_iter-taker-iterator.ensures.into_iter_gives, c.takers-taker-items.ensures)
    record { same = refl; among = λ k m. c.requires.2.takers-in c.args.giver k c.requires.0 m }

pub late_enough-requires : goal.late_enough-requires
late_enough-requires c = (c.requires.0, taker-in c.in-Some.ensures.steps c.loop-taker.invariant, c.requires.1)

pub returns-then-not-late_enough : goal.returns-then-not-late_enough
returns-then-not-late_enough c =
    kept-no c.in-Some.ensures.steps c.loop-taker.invariant (sym c.late_enough.ensures ∙ c.if-not-late_enough.true)

pub loop-taker-preserved : goal.loop-taker-preserved
loop-taker-preserved c =
    kept_yes c.in-Some.ensures.steps c.loop-taker.invariant (sym c.late_enough.ensures ∙ c.if-not-late_enough.false)

pub returns : goal.returns
returns c = kept_end c.in-None.ensures.steps.0 c.loop-taker.invariant
