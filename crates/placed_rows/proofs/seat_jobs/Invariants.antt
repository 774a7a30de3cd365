use mathlib.Core.Path.{◌≡◌}
use Rattle.placed_rows.specs.Seats.{words_from, places_from}
use Rattle.placed_rows.proofs.seat_jobs.Given as goal

abbrev pub invariant-loop-job : goal.invariant-loop-job
invariant-loop-job l = (l.tables ≡ words_from l.seats l.job l.initial.tables) × (l.places ≡ places_from l.seats l.job l.initial.places)
