-- What each function for questions 15 to 18 gives, over starts and boards in number order. Assumes nothing.
use Rattle.std.specs.Prelude.{Bool, ◌&&◌, ℕ, ◌+◌, ◌*◌, ◌≤◌, ◌<◌, length, T, leb, eqb}
use mathlib.Core.List.{List, Memᴰ}
use Rattle.rules.specs.Sizes.{max_jobs, max_limit}
use Rattle.rules.specs.Basics.{choose, at, all, any, range, largest}
use Rattle.rules.specs.Numbers.{eqℤ, centimetres}
use Rattle.rules.specs.Fields.{value, whole}
use Rattle.rules.specs.JobFile.{job_of}
use Rattle.rules.specs.Program.{slots}
use Rattle.rules.specs.Table.{row_of, same_name}
use Rattle.needrows.specs.Rows.{row_bytes, takers_of}

-- ---- 15

-- the row with this value has the name of the job with that value, and its level in centimetres
unfoldable pub labelled_by : List ℕ → List ℕ → Bool
labelled_by job row = same_name (job_of job).name (row_of row).name && eqℤ (centimetres (job_of job).level) (row_of row).level

-- a job stands at offset j of the file and a row at offset i of the table
pub record Placed (file : List ℕ) (j : ℕ) (table : List ℕ) (i : ℕ) : Type 0 where
  pub job-whole : T (whole file j)
  pub job-long : 2 ≤ length (value file j)
  pub row-whole : T (whole table i)
  pub row-long : 4 ≤ length (value table i)

unfoldable pub labelled_in : List ℕ → List ℕ → List ℕ → List ℕ → ℕ → Bool
labelled_in file jobs table rows n = all (λ i. labelled_by (value file (at jobs i)) (value table (at rows i))) (range n 0)

-- ---- 16

unfoldable pub sized_in : ℕ → ℕ → ℕ → ℕ → List ℕ → List ℕ → Bool
sized_in L most s b t bs = eqb s (slots t) && (leb s L && (all (leb 1) bs && (eqb b (largest bs) && leb b most)))

-- ---- 17

-- each row has one of 64 slots and a board below 64
abbrev pub InCells : List ℕ → List ℕ → Type 0
InCells t b = (i : ℕ) → i < length t → (at t i < max_limit) × (at b i < 64)

-- one of the first i rows has the start s and the board c
unfoldable pub cell_taken : List ℕ → List ℕ → ℕ → ℕ → ℕ → Bool
cell_taken t b i s c = any (λ j. eqb s (at t j) && eqb c (at b j)) (range i 0)

-- an earlier row shares start and board with row i
unfoldable pub shared : List ℕ → List ℕ → ℕ → Bool
shared t b i = cell_taken t b i (at t i) (at b i)

-- ---- 18

-- a need from job g to job k is kept
unfoldable pub late_enough : List ℕ → List ℕ → ℕ → ℕ → Bool
late_enough t b g k = choose (eqb (at b k) (at b g)) (leb (at t g + 1) (at t k)) (leb (at t g + 2) (at t k))

-- the takers in the rows of n jobs are among these, and the bytes of the rows are there
pub record RowsIn (rows : List ℕ) (n : ℕ) : Type 0 where
  pub few : n ≤ max_jobs
  pub room : row_bytes * n ≤ length rows
  pub takers-in : (g k : ℕ) → g < n → Memᴰ k (takers_of rows n g) → k < n

-- the needs of giver g are kept
unfoldable pub row_kept : List ℕ → List ℕ → List ℕ → ℕ → Bool
row_kept rows t b g = all (late_enough t b g) (takers_of rows (length t) g)

-- those of all givers
unfoldable pub rows_kept : List ℕ → List ℕ → List ℕ → Bool
rows_kept rows t b = all (row_kept rows t b) (range (length t) 0)
