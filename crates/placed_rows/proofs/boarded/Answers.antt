-- `placed_rows::boarded` meets its contract. Assumes nothing.
use Rattle.placed_rows.specs.Seats.{no_words, no_places}
use Rattle.placed_rows.proofs.boarded.Goals as goal

pub placed-requires : goal.placed-requires
unfolding no_words no_places
placed-requires c =
    let e = c.seat_jobs.ensures in
    rw (c.rows_of.ensures, e.0, e.1) c.requires.1

pub returns : goal.returns
unfolding no_words no_places
returns c =
    let e = c.seat_jobs.ensures in
    rw (c.rows_of.ensures, e.0, e.1) at c.placed.ensures
