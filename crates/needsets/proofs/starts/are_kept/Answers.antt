-- `needsets::starts::are_kept` meets its contract. The needs below the loop's place are kept. Assumes nothing.
use Rattle.std.proofs.Common.{sym, ◌∙◌}
use Rattle.laws.specs.Loops.{all_start, all_yes, all-no, all_end, all-failed}
use Rattle.needsets.specs.Starts.{keeping}
use Rattle.needsets.proofs.starts.are_kept.Goals as goal

pub loop-place-init : goal.loop-place-init
loop-place-init c = all_start _ _

pub returns-then-not-is_kept : goal.returns-then-not-is_kept
unfolding keeping
returns-then-not-is_kept c =
    all-failed
    (all-no c.loop-place.invariant c.loop-place-test.true (sym c.is_kept.ensures ∙ c.if-not-is_kept.true))

pub loop-place-preserved : goal.loop-place-preserved
loop-place-preserved c = all_yes c.loop-place.invariant c.loop-place-test.true (sym c.is_kept.ensures ∙ c.if-not-is_kept.false)

pub returns : goal.returns
unfolding keeping
returns c = all_end c.loop-place.invariant c.loop-place-test.false
