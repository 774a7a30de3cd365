-- `implied::put_rows` meets its contract: before each turn the pairs of the givers from `giver` up are to come. Assumes nothing.
use Rattle.std.proofs.Common.{◌∙◌, zero-add, arith}
use Rattle.implied.specs.Writing.{come-room, come-put, come-size, come-end}
use Rattle.implied.specs.ListingLaws.{rows-turn, rows_end}
use Rattle.implied.proofs.put_rows.Goals as goal

pub put_row-next-requires : goal.put_row-next-requires
put_row-next-requires c =
    let h = c.loop-giver-test.true in
    (c.requires.0, h, come-room c.loop-giver.invariant _ _ (rows-turn _ _ _ _ h) (omega (arith, c.requires.1)))

pub loop-giver-preserved : goal.loop-giver-preserved
loop-giver-preserved c =
    let e = c.put_row-next.ensures in
    come-put c.loop-giver.invariant _ _ (rows-turn _ _ _ _ c.loop-giver-test.true) _ _ e.size e.entries

pub returns : goal.returns
returns c =
    let w = c.loop-giver.invariant in
    let z = rows_end _ _ _ _ c.loop-giver-test.false in
    record { size = come-size w z ∙ zero-add _; entries = come-end w z }
