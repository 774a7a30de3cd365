-- `releases::tails` meets its contract: before each turn the jobs from entry `next` of the order on have their tails. Assumes nothing.
use Rattle.std.proofs.Common.{◌≡◌, ℕ, ◌+◌, ◌-◌, ◌<◌, List, arith}
use Rattle.releases.specs.Sorted.{rows_of}
use Rattle.releases.specs.Tails.{TailsFrom, job-below, takers-small, tails-step, tails_end}
use Rattle.releases.proofs.tails.Goals as goal

-- the entry of a turn is one of the order, and the jobs behind it have their tails
entry : (rows : List ℕ) (n : ℕ) (order : List ℕ) (next : ℕ) (tail : List ℕ) → 0 < next → TailsFrom rows n order next tail
    → (next - 1 < n) × TailsFrom rows n order (next - 1 + 1) tail
entry rows n order next tail h d = let e : next - 1 + 1 ≡ next = omega arith in (omega (arith, d.next_le), rw e d)

pub tail_of-requires : goal.tail_of-requires
tail_of-requires c =
    let a = c.args in
    let l = c.loop-next in
    let o = c.requires.0 in
    let (less, d) = entry a.rows.now a.jobs a.order.now l.next l.tail c.loop-next-test.true l.invariant in
    rw c.from-job.ensures (
      rows_of a.rows.now a.jobs o.of-needs,
      job-below a.rows.now a.jobs a.order.now o (l.next - 1) l.tail less d,
      λ k m. omega (arith, o.of-needs.jobs-few, takers-small a.rows.now a.jobs a.order.now o (l.next - 1) l.tail less d k m),
    )

pub bounds-tail-job : goal.bounds-tail-job
bounds-tail-job c =
    let a = c.args in
    let l = c.loop-next in
    let o = c.requires.0 in
    let (less, d) = entry a.rows.now a.jobs a.order.now l.next l.tail c.loop-next-test.true l.invariant in
    omega (arith, c.from-job.ensures, o.of-needs.jobs-few, job-below a.rows.now a.jobs a.order.now o (l.next - 1) l.tail less d)

pub loop-next-preserved : goal.loop-next-preserved
loop-next-preserved c =
    let a = c.args in
    let l = c.loop-next in
    let (less, d) = entry a.rows.now a.jobs a.order.now l.next l.tail c.loop-next-test.true l.invariant in
    rw (c.tail_of.ensures, c.from-job.ensures) (tails-step a.rows.now a.jobs a.order.now c.requires.0 (l.next - 1) l.tail less d)

pub returns : goal.returns
returns c =
    let a = c.args in
    let l = c.loop-next in
    let e : l.next ≡ 0 = omega arith in
    tails_end a.rows.now a.jobs a.order.now c.requires.0 l.tail (rw e at l.invariant)
