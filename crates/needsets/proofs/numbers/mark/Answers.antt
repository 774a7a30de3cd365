-- `needsets::numbers::mark` meets its contract. The bits of the jobs from the loop's up are in `next`. Assumes nothing.
use mathlib.Core.Path.{sym, ◌∙◌}
use native.Mathlib.Omega.{arith}
use Rattle.needsets.specs.Marks.{marked_bits}
use Rattle.needsets.specs.MarkLaws.{bits-start, bits_small, bits-one, bits-zero, bits-end}
use Rattle.needsets.proofs.numbers.mark.Goals as goal

pub loop-job-init : goal.loop-job-init
loop-job-init c = bits-start _ _

pub overflow_mul-next : goal.overflow_mul-next
overflow_mul-next c = omega (arith, bits_small c.loop-job.invariant c.requires)

pub overflow_add-next : goal.overflow_add-next
overflow_add-next c = omega (arith, bits_small c.loop-job.invariant c.requires)

pub loop-job-preserved-then-is_ready : goal.loop-job-preserved-then-is_ready
loop-job-preserved-then-is_ready c = bits-one c.loop-job.invariant c.loop-job-test.true (sym c.is_ready.ensures ∙ c.if-is_ready.true)

pub loop-job-preserved : goal.loop-job-preserved
loop-job-preserved c = bits-zero c.loop-job.invariant c.loop-job-test.true (sym c.is_ready.ensures ∙ c.if-is_ready.false)

pub returns : goal.returns
unfolding marked_bits
returns c = bits-end c.loop-job.invariant (omega arith)
