-- `placed_rows::seat_job` meets its contract. Assumes nothing.
use Rattle.placed_rows.specs.Seats.{seat_words}
use Rattle.placed_rows.proofs.seat_job.Goals as goal

pub returns : goal.returns
unfolding seat_words
returns c = rw (c.from-s.ensures, c.from-p.ensures)
