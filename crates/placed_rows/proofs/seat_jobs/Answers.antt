-- `placed_rows::seat_jobs` meets its contract. Assumes nothing.
use mathlib.Core.Path.{◌≡◌, refl}
use native.Mathlib.Omega.{arith}
use Rattle.placed_rows.specs.Seats.{words_from, places_from}
use Rattle.placed_rows.specs.SeatsLaws.{words-turn, places-turn}
use Rattle.placed_rows.proofs.seat_jobs.Goals as goal

pub loop-job-init : goal.loop-job-init
unfolding words_from places_from
loop-job-init c = (refl, refl)

pub seat_job-requires : goal.seat_job-requires
seat_job-requires c =
    let h = c.requires c.loop-job.job (omega arith) in
    (omega arith, h.0, h.1)

pub loop-job-preserved : goal.loop-job-preserved
loop-job-preserved c =
    let l = c.loop-job in
    let a = c.args in
    let w = words-turn a.seats l.job a.tables.now in
    (rw (c.seat_job.ensures, l.invariant.0) w, rw l.invariant.1 (places-turn a.seats l.job a.places.now))

pub returns : goal.returns
returns c =
    let e : c.loop-job.job ≡ 8 = omega arith in
    let l = c.loop-job.invariant in
    (rw e at l.0, rw e at l.1)
