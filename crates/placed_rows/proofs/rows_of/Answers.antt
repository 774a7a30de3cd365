-- `placed_rows::rows_of` meets its contract. Assumes nothing.
use Rattle.std.proofs.Common.{rules, tests}
use Rattle.placed_rows.specs.Seats.{row_of}
use Rattle.placed_rows.proofs.Rows.{rows-same}
use Rattle.placed_rows.proofs.rows_of.Goals as goal

pub returns : goal.returns
returns c = rows-same c.args.slots c.map.result c.map.ensures.items.long (λ k h.
    let w = c.map.ensures.items.at k 0 (row_of 0) h in
    let e = w.2 in search (rules, tests))
