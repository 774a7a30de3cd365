-- The windows of a file as arrays: what `seat_all` asks of them. Assumes nothing.
use Rattle.std.specs.Prelude.{◌≡◌, refl, List, ℕ, ◌*◌, ◌≤◌, ◌<◌, length}
use Rattle.std.proofs.Common.{arith}
use Rattle.rules.specs.Sizes.{max_jobs, max_limit}
use Rattle.rules.specs.Basics.{at}
use Rattle.rules.specs.Needs.{Need, NeedsIn, Circle}
use Rattle.rules.specs.Windows.{release, tail}
use Rattle.needrows.specs.Rows.{RowsAre, row_bytes}
use Rattle.places.specs.OfFile.{file_windows, file-leads}
use Rattle.seats.specs.Enter.{Given}

-- the needs of a file without circles in rows, its releases and its tails
pub record FileArrays (jobs : ℕ) (needs : List Need) (limit : ℕ) (rows releases tails : List ℕ) : Type 0 where
  pub needs-in : NeedsIn jobs needs
  pub free : ¬ (Circle needs)
  pub jobs-fit : jobs ≤ max_jobs
  pub limit-fits : limit ≤ max_limit
  pub rows_fit : row_bytes * jobs ≤ length rows
  pub rows_are : RowsAre rows jobs needs
  pub releases-are : (i : ℕ) → i < jobs → at releases i ≡ release jobs needs i
  pub tails-are : (i : ℕ) → i < jobs → at tails i ≡ tail jobs needs i

module _ {jobs : ℕ} {needs : List Need} {limit : ℕ} {rows releases tails : List ℕ} (F : FileArrays jobs needs limit rows releases tails) where
  pub file-given : Given (file_windows jobs needs limit) rows releases tails jobs limit
  unfolding file_windows
  file-given = record {
    leads = file-leads jobs needs limit F.needs-in F.free;
    count = refl;
    jobs-fit = F.jobs-fit;
    limit-fits = F.limit-fits;
    rows_fit = F.rows_fit;
    rows_are = F.rows_are;
    releases = F.releases-are;
    deadlines = λ i l. omega (arith, F.tails-are i l);
  }
