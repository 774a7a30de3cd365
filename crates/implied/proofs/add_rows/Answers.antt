-- `implied::add_rows` meets its contract: before each turn the jobs of the order from place `next` on have what stands beyond them. Assumes nothing.
use Rattle.std.proofs.Common.{◌-◌, ◌<◌, arith}
use Rattle.implied.specs.Reaching.{giver-in, giver-others, fill_start, rows-there, fill_more, fill_end}
use Rattle.implied.proofs.add_rows.Goals as goal

pub loop-next-init : goal.loop-next-init
loop-next-init c = fill_start c.requires.0 _ c.requires.2

pub add_takers-requires : goal.add_takers-requires
add_takers-requires c =
    let p = c.requires in
    let h : c.loop-next.next - 1 < c.args.jobs = omega arith in
    rw c.from-giver.ensures (rows-there p.0 c.loop-next.invariant p.1, giver-in p.0 _ h, giver-others p.0 _ h)

pub loop-next-preserved : goal.loop-next-preserved
loop-next-preserved c = fill_more c.requires.0 c.loop-next.invariant c.loop-next-test.true _ (rw c.from-giver.ensures at c.add_takers.ensures)

pub returns : goal.returns
returns c = (fill_end c.requires.0 c.loop-next.invariant (omega arith), c.loop-next.invariant.size)
