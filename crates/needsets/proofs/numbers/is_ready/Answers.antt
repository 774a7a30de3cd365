-- `needsets::numbers::is_ready` meets its contract. The givers below the loop's are marked. Assumes nothing.
use Rattle.std.proofs.Common.{sym, ap, ◌∙◌, not}
use Rattle.laws.specs.Loops.{all_start, all_yes, all-no, all_end, all-failed}
use Rattle.needsets.specs.Marks.{is_ready}
use Rattle.needsets.proofs.numbers.is_ready.Goals as goal

pub loop-giver-init : goal.loop-giver-init
loop-giver-init c = all_start _ _

pub returns-then-waits : goal.returns-then-waits
unfolding is_ready
returns-then-waits c = all-failed (all-no c.loop-giver.invariant c.loop-giver-test.true (ap not (sym c.waits.ensures ∙ c.if-waits.true)))

pub loop-giver-preserved : goal.loop-giver-preserved
loop-giver-preserved c = all_yes c.loop-giver.invariant c.loop-giver-test.true (ap not (sym c.waits.ensures ∙ c.if-waits.false))

pub returns : goal.returns
unfolding is_ready
returns c = all_end c.loop-giver.invariant c.loop-giver-test.false
