-- `releases::count_givers` meets its contract: before each turn the givers below the index are counted. Assumes nothing.
use Rattle.std.proofs.Common.{arith}
use Rattle.releases.specs.Counted.{counted_start, counted-countable, counted_step, counted-end}
use Rattle.releases.proofs.count_givers.Goals as goal

pub loop-giver-init : goal.loop-giver-init
loop-giver-init c = rw c.requires.1 (counted_start c.args.rows.now c.args.jobs)

pub count_takers-requires : goal.count_takers-requires
count_takers-requires c =
    let l = c.loop-giver in
    let less = c.loop-giver-test.true in
    (c.requires.0, less, counted-countable c.args.rows.now c.args.jobs l.giver l.waits c.requires.0 less l.invariant)

pub loop-giver-preserved : goal.loop-giver-preserved
loop-giver-preserved c =
    let l = c.loop-giver in
    rw c.count_takers.ensures (counted_step c.args.rows.now c.args.jobs l.giver l.waits c.requires.0 c.loop-giver-test.true l.invariant)

pub returns : goal.returns
returns c = counted-end c.args.rows.now c.args.jobs c.loop-giver.giver c.loop-giver.waits (omega arith) c.loop-giver.invariant
