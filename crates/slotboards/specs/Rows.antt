-- A row of job records with a place for each job: the placing over a lent row. Assumes nothing.
use Rattle.std.specs.Prelude.{◌≡◌, ◌↔◌, true, List, [], ◌∷◌, map, ℕ, zero, suc, ◌+◌, ◌≤◌, ◌<◌, length, set, get_or, replicate}
use Rattle.rules.specs.Sizes.{max_jobs, max_limit, max_width}
use Rattle.rules.specs.Basics.{at, largest}
use Rattle.rules.specs.Needs.{Need, Gives, NeedsIn}
use Rattle.rules.specs.Program.{slots, Kept}
use Rattle.rules.specs.Boards.{boards}
use Rattle.jobset.specs.Sets.{member, set_at, with}
use Rattle.layout.specs.Layout.{tables_in}
use Rattle.slotboards.specs.Placing.{blank}
use Rattle.slotboards.specs.declared.JobRecord.{JobRecord}
use Rattle.slotboards.specs.declared.Columns.{Columns}

-- ---- what is given

-- the jobs start as t says, in so many slots, and keep the rules; each job has a place, where the tables have the job and its givers in the slot before
pub record Seated (needs : List Need) (t words places : List ℕ) (count : ℕ) : Type 0 where
  pub few : length t ≤ max_jobs
  pub slots-few : count ≤ max_limit
  pub slots-are : slots t ≡ count
  pub needs-in : NeedsIn (length t) needs
  pub kept : Kept (Gives needs) (at t)
  pub place-low : (i : ℕ) → i < length t → at places i < max_width
  pub who-is : (i : ℕ) → i < length t → (tables_in words).who (at t i) (at places i) ≡ i
  pub givers : (g i : ℕ) → g < length t → i < length t → at t g + 1 ≡ at t i
      → (member ((tables_in words).prev (at t i) (at places i)) (at places g) ≡ true) ↔ Gives needs g i

-- ---- what the thin form gives

-- the starts of a row of records, in job order
abbrev pub starts_of : List JobRecord → List ℕ
starts_of rows = map (λ r. r.start) rows

-- the records with board b i for job i, counted from i; the starts stay
unfoldable pub with_boards : (ℕ → ℕ) → ℕ → List JobRecord → List JobRecord
with_boards b i [] = []
with_boards b i (r ∷ rs) = record { start = r.start; board = b i } ∷ with_boards b (suc i) rs

-- the number of boards, and the records
pub record RowsPlaced : Type 0 where
  pub count : ℕ
  pub rows : List JobRecord

-- the boards that the rules give to the starts of the records
unfoldable pub rules_rows : List Need → List JobRecord → RowsPlaced
rules_rows needs rows =
    let b = boards (length rows) needs (starts_of rows) in
    record { count = largest b; rows = with_boards (at b) 0 rows }

-- for some needs the starts of the records and the places are as the placing asks
pub record RowsSeated (rows : List JobRecord) (words places : List ℕ) (count : ℕ) : Type 0 where
  pub needs : List Need
  pub seated : Seated needs (starts_of rows) words places count

-- for all such needs the records get the boards of the rules
pub record RowsBoarded (rows : List JobRecord) (words places : List ℕ) (count : ℕ) (out : RowsPlaced) : Type 0 where
  pub rows_are : (needs : List Need) → Seated needs (starts_of rows) words places count → out ≡ rules_rows needs rows

-- ---- the copies

-- the first jobs start in one of 64 slots, at one of eight places
abbrev pub PathIn : List ℕ → List ℕ → ℕ → Type 0
PathIn starts places n = (i : ℕ) → i < n → (at starts i < max_limit) × (at places i < max_width)

-- the set of the places of the first jobs, for each slot
unfoldable pub path_of : List ℕ → List ℕ → ℕ → List ℕ
path_of starts places zero = replicate max_limit 0
path_of starts places (suc i) =
    let before = path_of starts places i in
    set before (at starts i) (with (set_at before (at starts i)) (at places i)).bits

-- record number i, from 0
abbrev pub nth_record : List JobRecord → ℕ → JobRecord
nth_record rows i = get_or rows i (record { start = 0; board = 0 })

-- no record is copied yet
abbrev pub blank_columns : Columns
blank_columns = record { count = 0; starts = blank; boards = blank }

-- the start of record i is copied out
abbrev pub with_start : Columns → ℕ → JobRecord → Columns
with_start c i r = record { count = c.count; starts = set c.starts i r.start; boards = c.boards }

-- the first n records are copied out
unfoldable pub loaded : List JobRecord → ℕ → Columns
loaded rows zero = blank_columns
loaded rows (suc i) = with_start (loaded rows i) i (nth_record rows i)

-- the record of job i
abbrev pub record_of : Columns → ℕ → JobRecord
record_of c i = record { start = at c.starts i; board = at c.boards i }

-- the first n records are written back
unfoldable pub stored : Columns → ℕ → List JobRecord → List JobRecord
stored c zero rows = rows
stored c (suc i) rows = set (stored c i rows) i (record_of c i)
