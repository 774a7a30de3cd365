-- `needsets::starts::put_starts` meets its contract. Before each turn the digits of what is left are still to come. Assumes nothing.
use Rattle.std.proofs.Common.{sym, ◌∙◌, refl, arith, length-set}
use Rattle.needsets.proofs.Digits.{digit-turn, digits-end}
use Rattle.needsets.proofs.starts.put_starts.Goals as goal

pub loop-start-init : goal.loop-start-init
loop-start-init c = (c.requires.2, refl)

pub loop-start-preserved : goal.loop-start-preserved
loop-start-preserved c =
    let l = c.loop-start in
    (length-set _ _ _ ∙ l.invariant.0, digit-turn c.args.jobs l.start-index l.rest l.starts l.invariant.0 (omega arith) ∙ l.invariant.1)

pub returns : goal.returns
returns c =
    let l = c.loop-start in
    sym (digits-end c.args.jobs l.start-index l.rest l.starts l.invariant.0 (omega arith)) ∙ l.invariant.1
