-- `implied::add_taker` meets its contract: before each turn the first i bytes of the giver's row are joined. Assumes nothing.
use Rattle.std.proofs.Common.{◌<◌, arith}
use Rattle.needrows.specs.Rows.{row_bytes}
use Rattle.implied.specs.Joining.{bytes-more, bytes-joined}
use Rattle.implied.proofs.add_taker.Goals as goal

pub loop-i-preserved : goal.loop-i-preserved
loop-i-preserved c =
    let a = c.args in
    let p = c.requires in
    let r = p.0.rows_of in
    let i-in : c.loop-i.i < row_bytes = omega (arith, c.div_ceil-i-end.ensures, r.jobs-few) in
    bytes-more a.takers.now a.giver a.taker a.beyond.now p.3 c.loop-i.i c.loop-i.beyond i-in (omega (arith, p.0.room, p.1)) c.loop-i.invariant

pub returns : goal.returns
returns c =
    let a = c.args in
    let p = c.requires in
    let few = p.0.rows_of.jobs-few in
    bytes-joined a.takers.now a.giver a.taker a.beyond.now p.3 a.jobs c.loop-i.i c.loop-i.beyond
    (omega (arith, c.div_ceil-i-end.ensures)) (omega (arith, c.div_ceil-i-end.ensures, few)) c.loop-i.invariant
