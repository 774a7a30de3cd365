-- `placed_rows::figure` meets its contract. Assumes nothing.
use Rattle.placed_rows.specs.Figure.{figure_needs, figure-seats}
use Rattle.placed_rows.proofs.figure.Goals as goal

pub boarded-requires : goal.boarded-requires
boarded-requires c = (figure-seats.0, record { needs = figure_needs; seated = figure-seats.1 })

pub returns : goal.returns
returns c = c.boarded.ensures.rows_are figure_needs figure-seats.1
