-- `slotboards::take_lowest` meets its contract. Assumes nothing.
use mathlib.Core.Path.{◌∙◌}
use Rattle.slotboards.specs.Turns.{others-row}
use Rattle.slotboards.proofs.take_lowest.Goals as goal

pub take_row-requires : goal.take_row-requires
take_row-requires c =
    let e = c.by_number-count.ensures in
    let p = c.requires in
    (p.0, e.few, rw e.row_is p.2)

pub returns : goal.returns
returns c = c.take_row.ensures ∙ others-row _ _ _ _ _ _ c.by_number-count.ensures.row_is
