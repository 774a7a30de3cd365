-- `releases::first_jobs` meets its contract: before each turn the order has the jobs below the index that wait for none. Assumes nothing.
use Rattle.std.proofs.Common.{arith}
use Rattle.releases.specs.Counted.{first-start, first_count, first-yes, first-no}
use Rattle.releases.proofs.first_jobs.Goals as goal
use Rattle.releases.proofs.first_jobs.Goals.{then-waits-job-eq0, else-waits-job-eq0}

pub loop-job-init : goal.loop-job-init
loop-job-init c = first-start c.args.waits.now c.args.order.now c.requires.1

pub bounds-order-count : goal.bounds-order-count
bounds-order-count c = omega (arith, first_count _ _ _ _ c.loop-job.invariant)

pub loop-job-preserved : goal.loop-job-preserved
loop-job-preserved c =
    let l = c.loop-job in
    let w = c.args.waits.now in
    elim c.if-waits-job-eq0.branch [
      | then-waits-job-eq0 b ↦ rw (b.order-is, b.count-is) (first-yes w l.job l.count l.order l.invariant (omega arith) b.if-waits-job-eq0.true)
      | else-waits-job-eq0 b ↦ rw (b.order-is, b.count-is) (first-no w l.job l.count l.order l.invariant b.if-waits-job-eq0.false)
    ]
