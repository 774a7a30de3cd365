-- The bytes that the writer puts, piece by piece. Assumes nothing.
use Rattle.std.specs.Prelude.{List, [], ◌∷◌, ℕ, ◌≤◌, ◌<◌, length, T}
use Rattle.rules.specs.Basics.{at, tabulate}
use Rattle.rules.specs.Numbers.{low, high, centimetres}
use Rattle.rules.specs.Fields.{value, whole}
use Rattle.rules.specs.JobFile.{job_of}
use Rattle.rules.specs.Table.{Row, Table}

-- the head of the table
unfoldable pub head_bytes : ℕ → ℕ → List ℕ
head_bytes slots boards = 16 ∷ 3 ∷ 0 ∷ 1 ∷ slots ∷ boards ∷ []

-- tag 17, length, start, board and the level's two bytes
unfoldable pub fixed_bytes : ℕ → ℕ → ℕ → ℕ → List ℕ
fixed_bytes size start board level = 17 ∷ size ∷ 0 ∷ start ∷ board ∷ low level ∷ high level ∷ []

-- the row of the job with the value v in the job file
unfoldable pub row_with : ℕ → ℕ → List ℕ → Row
row_with start board v = record { start = start; board = board; level = centimetres (job_of v).level; name = (job_of v).name }

-- the table of the jobs whose fields stand at the offsets o of the file, with their starts and boards
unfoldable pub table_with : List ℕ → List ℕ → List ℕ → List ℕ → ℕ → ℕ → ℕ → Table
table_with bs o t b n slots boards = record { slots = slots; boards = boards; rows = tabulate (λ i. row_with (at t i) (at b i) (value bs (at o i))) n 0 }

-- the first n offsets are those of whole job fields
pub record JobFields (bs o : List ℕ) (n : ℕ) : Type 0 where
  pub are-whole : (i : ℕ) → i < n → T (whole bs (at o i))
  pub long : (i : ℕ) → i < n → 3 ≤ length (value bs (at o i))
  pub short : (i : ℕ) → i < n → length (value bs (at o i)) ≤ 14
