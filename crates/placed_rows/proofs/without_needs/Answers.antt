-- `placed_rows::without_needs` meets its contract. Assumes nothing.
use mathlib.Core.List.{[]}
use Rattle.placed_rows.specs.Figure.{first-seats}
use Rattle.placed_rows.proofs.without_needs.Goals as goal

pub boarded-requires : goal.boarded-requires
boarded-requires c = (first-seats.0, record { needs = []; seated = first-seats.1 })

pub returns : goal.returns
returns c = c.boarded.ensures.rows_are [] first-seats.1
