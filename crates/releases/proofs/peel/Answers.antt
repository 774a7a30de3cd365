-- `releases::peel` meets its contract: before each turn the first `next` jobs of the order were peeled (Peeling). Assumes nothing.
use Rattle.std.proofs.Common.{◌≡◌, ◌<◌, true, false, refl, sym, arith, add-one, ne_eqb, eq-eqb}
use Rattle.releases.specs.Peels.{Peel, peel_of}
use Rattle.releases.specs.Ordered.{RowsOf}
use Rattle.releases.specs.Sorted.{rows_of}
use Rattle.releases.specs.Peeling.{job-in, job-ready, slot_small, peeling-step}
use Rattle.releases.specs.Ends.{peeling-start, peeling-end}
use Rattle.releases.proofs.peel.Goals as goal
use Rattle.releases.proofs.peel.Goals.{After-from-job}

pub count_givers-requires : goal.count_givers-requires
count_givers-requires c = (rows_of c.args.rows.now c.args.jobs c.requires.0, refl)

pub loop-next-init : goal.loop-next-init
loop-next-init c =
    let a = c.args in
    rw c.requires.2 (peeling-start a.rows.now a.jobs _ _ _ (rows_of a.rows.now a.jobs c.requires.0) c.count_givers.ensures c.first_jobs-count.ensures)

-- what the rows are
rows_are : (c : After-from-job) → RowsOf c.args.rows.now c.args.jobs
rows_are c = rows_of c.args.rows.now c.args.jobs c.requires.0

-- the state at the start of a turn
now-is : (c : After-from-job) → Peel
now-is c = let l = c.loop-next in peel_of l.release l.waits l.order l.count

-- the next job is in the order
more : (c : After-from-job) → c.loop-next.next < c.loop-next.count
more c = omega (arith, c.loop-next.invariant.next_le)

pub peel_job-count-requires : goal.peel_job-count-requires
unfolding now-is
peel_job-count-requires c =
    let d = (goal.at.peel_job-count-requires c).After-from-job in
    let a = c.args in
    let l = c.loop-next in
    rw c.from-job.ensures (
      rows_are d,
      job-in a.rows.now a.jobs l.next (now-is d) (rows_are d) l.invariant (more d),
      omega (arith, c.requires.0.jobs-few, slot_small a.rows.now a.jobs l.next (now-is d) (rows_are d) l.invariant (more d)),
      job-ready a.rows.now a.jobs l.next (now-is d) (rows_are d) l.invariant (more d),
    )

pub loop-next-preserved : goal.loop-next-preserved
unfolding now-is
loop-next-preserved c =
    let d = (goal.at.loop-next-preserved c).After-from-job in
    let a = c.args in
    let l = c.loop-next in
    rw (add-one l.next, c.peel_job-count.ensures, c.from-job.ensures)
    (peeling-step a.rows.now a.jobs l.next (now-is d) (rows_are d) l.invariant (more d))

pub returns-then-next-count : goal.returns-then-next-count
returns-then-next-count c = λ needs needs-in are.
    let a = c.args in
    let l = c.loop-next in
    let s = peel_of l.release l.waits l.order l.count in
    let less : l.count < a.jobs = omega arith in
    let rows = rows_of a.rows.now a.jobs c.requires.0 in
    peeling-end a.rows.now a.jobs s rows (rw c.if-next-count.true at l.invariant) needs needs-in are false
    (sym (ne_eqb l.count a.jobs (λ e. omega arith)))

pub returns : goal.returns
returns c = λ needs needs-in are.
    let a = c.args in
    let l = c.loop-next in
    let s = peel_of l.release l.waits l.order l.count in
    let all : l.count ≡ a.jobs = omega (arith, l.invariant.next_le, l.invariant.count-le) in
    let e : l.next ≡ l.count = omega arith in
    let rows = rows_of a.rows.now a.jobs c.requires.0 in
    peeling-end a.rows.now a.jobs s rows (rw e at l.invariant) needs needs-in are true (sym (eq-eqb l.count a.jobs all))
