-- `small::small_gates` meets its contract. The lines of as many jobs as the loop's and more are still to come. Assumes nothing.
use Rattle.std.proofs.Common.{◌≡◌, ◌+◌, ◌-◌, arith}
use Rattle.laws.specs.Writing.{so-far-room, so-far-put, so-far-end}
use Rattle.small.specs.LineLaws.{all_fit, list_full}
use Rattle.small.proofs.small_gates.Goals as goal

pub put_lines-at-requires : goal.put_lines-at-requires
put_lines-at-requires c =
    let i = c.loop-jobs.invariant in
    let e : c.loop-jobs.jobs - 1 + 1 ≡ c.loop-jobs.jobs = omega arith in
    (omega arith, omega arith, rw e at (so-far-room i.1 (omega arith) (omega (arith, all_fit, i.0))))

pub loop-jobs-preserved : goal.loop-jobs-preserved
loop-jobs-preserved c =
    let i = c.loop-jobs.invariant in
    let p = c.put_lines-at in
    let e : c.loop-jobs.jobs - 1 + 1 ≡ c.loop-jobs.jobs = omega arith in
    let f : c.loop-jobs.jobs - 1 + 1 ≡ c.loop-jobs.jobs + 1 - 1 = omega arith in
    (i.0, rw (← f) (so-far-put i.1 (omega arith) _ _ (rw e p.ensures.size) (rw e p.ensures.entries)))

pub returns : goal.returns
returns c = let i = c.loop-jobs.invariant in list_full _ _ i.0 (so-far-end i.1 (omega arith))
