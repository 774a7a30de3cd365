-- What the planner gives, and what its parts are given. Assumes nothing.
use Rattle.std.specs.Prelude.{◌≡◌, List, ℕ, ◌+◌, ◌-◌, ◌/◌, ◌≤◌, ◌<◌, max, T, Result, Ok, Err}
use Rattle.rules.specs.Sizes.{max_width}
use Rattle.rules.specs.Basics.{at}
use Rattle.rules.specs.Fields.{got, after}
use Rattle.rules.specs.Needs.{circle_free}
use Rattle.rules.specs.JobFile.{JobFile, most_boards, read_file}
use Rattle.rules.specs.Windows.{release, tail, width}
use Rattle.rules.specs.Answers.{plan_table, Outcome, cleared, written}
use Rattle.laws.specs.JobFile.{Readable}
use Rattle.jobfile.specs.Reading.{given, Held}
use Rattle.places.specs.OfFile.{file_windows}
use Rattle.lengths.specs.Searching.{PlanFound}
use Rattle.refusals.specs.declared.Refusal.{Refusal}
use Rattle.refusals.specs.Refusals.{number}

-- number, length and both buffers: what document 01 says of an answer
abbrev pub outcome_of : Result ℕ Refusal → List ℕ → List ℕ → Outcome
outcome_of (Ok n) work table = record { number = 0; size = n; table = table; work = work }
outcome_of (Err q) work table = record { number = number q; size = 0; table = table; work = work }

-- the answer for a file with full buffers: the table buffer before and after; the working buffer is cleared afterwards
unfoldable pub Answers : List ℕ → Result ℕ Refusal → List ℕ → List ℕ → Type 0
Answers bs r table table' = (work : List ℕ) → outcome_of r (cleared work) table' ≡ written (after (read_file bs) plan_table) work table

-- the first makespan that the search tries: at least as many slots as the windows leave, and as n jobs take
unfoldable pub first_length : ℕ → ℕ → ℕ → ℕ
first_length least n cap = max least ((n + (cap - 1)) / cap)

-- ---- what is known of the file

-- it is readable, and offsets and rows hold what it says
pub record JobsRead (bs : List ℕ) (n L : ℕ) (offsets rows : List ℕ) : Type 0 where
  pub file : JobFile
  pub read : read_file bs ≡ got file
  pub keeps : Readable file
  pub held : Held bs file (record { fields = file.fields; limit = L; sockets = given file.sockets; jobs = n; offsets = offsets; rows = rows })

-- and it has no circle; b is the most boards, and the arrays have the releases and the tails
pub record WindowsRead (bs : List ℕ) (n L b : ℕ) (offsets rows releases tails : List ℕ) : Type 0 where
  pub jobs : JobsRead bs n L offsets rows
  pub free : T (circle_free n jobs.file.needs)
  pub boards-are : b ≡ most_boards jobs.file
  pub releases-are : (i : ℕ) → i < n → at releases i ≡ release n jobs.file.needs i
  pub tails-are : (i : ℕ) → i < n → at tails i ≡ tail n jobs.file.needs i

-- and it is not too wide; tables and path have the plan that was found
pub record PlanRead (bs : List ℕ) (n : ℕ) (offsets words path : List ℕ) (slots : ℕ) : Type 0 where
  pub limit : ℕ
  pub rows : List ℕ
  pub jobs : JobsRead bs n limit offsets rows
  pub free : T (circle_free n jobs.file.needs)
  pub narrow : width n jobs.file.needs limit ≤ max_width
  pub found : PlanFound (file_windows n jobs.file.needs limit) (most_boards jobs.file) limit slots words path
