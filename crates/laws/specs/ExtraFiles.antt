-- Extra jobs behind those of a gate (document 02, request 12), said of job files and of the planner's answers: "every gate job keeps the start it has without
-- them, however the extras change within these terms". Assumes nothing.
use Rattle.std.specs.Prelude.{◌≡◌, List, ◌++◌, ℕ, ◌≤◌, length, take}
use Rattle.std.proofs.Common.{sym, ◌∙◌}
use Rattle.std.proofs.Math.Path.{ap}
use Rattle.rules.specs.Sizes.{max_boards, work_size, table_size}
use Rattle.rules.specs.Numbers.{Bytes}
use Rattle.rules.specs.Fields.{got}
use Rattle.rules.specs.JobFile.{JobFile, most_boards, read_file}
use Rattle.rules.specs.Table.{Table, starts, encode}
use Rattle.rules.specs.Answers.{written, plan, check}
use Rattle.laws.specs.Fields.{got_same}
use Rattle.laws.specs.JobFile.{Readable}
use Rattle.laws.specs.Demands.{asked}
use Rattle.laws.specs.Extras.{DisjointUnion}

-- "the extra jobs stand behind the gate's, no need joins the two groups", "under the same limit": the whole has the gate's jobs in their order, with their
-- levels and names, then the extra ones, and the needs of both; each of the three files has c boards
pub record Extended (c : ℕ) (gate extras whole : JobFile) : Type 0 where
  pub jobs : whole.jobs ≡ gate.jobs ++ extras.jobs
  pub needs : DisjointUnion (length gate.jobs) gate.needs extras.needs whole.needs
  pub gate-limit : gate.limit ≡ whole.limit
  pub extras-limit : extras.limit ≡ whole.limit
  pub gate-boards : most_boards gate ≡ c
  pub extras-boards : most_boards extras ≡ c
  pub whole-boards : most_boards whole ≡ c

-- ---- a file with eight boards

-- f is readable and has eight boards: tag 9 is absent, or 8
pub record EightBoards (f : JobFile) : Type 0 where
  pub ok : Readable f
  pub eight : max_boards ≤ most_boards f

-- ---- the planner's answers

-- a file of bytes that says f
pub record Says (file : List ℕ) (f : JobFile) : Type 0 where
  pub bytes : Bytes file
  pub read : read_file file ≡ got f

-- what the planner answers to the file is the table T
pub record Gets (file : List ℕ) (T : Table) : Type 0 where
  -- the questions lead to it
  pub leads : asked file ≡ got T
  -- whatever the full buffers held: number 0, its bytes at the front of the table buffer and all behind them as it was, and the first 65,536 bytes of the
  -- working buffer zero
  pub writes : (work table : List ℕ) → work_size ≤ length work → table_size ≤ length table → plan file work table ≡ written (got T) work table
  -- and these bytes pass the check, which reads them as T
  pub passes : check file (encode T) ≡ got T

-- the tables of a gate, of extra jobs, and of both: the gate's starts are kept where the extras have no more slots
pub record ThreeTables (gate extras whole : List ℕ) : Type 0 where
  pub gate-table : Table
  pub extras-table : Table
  pub whole-table : Table
  pub gate-gets : Gets gate gate-table
  pub extras-gets : Gets extras extras-table
  pub whole-gets : Gets whole whole-table
  -- "the extra ones alone under the same limit need no more slots than the gate's alone. Then every gate job keeps the start it has without them"
  pub keeps : extras-table.slots ≤ gate-table.slots → take (length (starts gate-table)) (starts whole-table) ≡ starts gate-table

-- "however the extras change within these terms": with other extras behind it the gate has the same starts
pub extras-may-change : {gate extras others whole changed : List ℕ} (x : ThreeTables gate extras whole) (y : ThreeTables gate others changed)
    → x.extras-table.slots ≤ x.gate-table.slots → y.extras-table.slots ≤ y.gate-table.slots
    → let n = length (starts x.gate-table) in take n (starts x.whole-table) ≡ take n (starts y.whole-table)
extras-may-change x y p q = x.keeps p ∙ ap starts same ∙ sym (ap (λ (T : Table). take (length (starts T)) (starts y.whole-table)) same ∙ y.keeps q)
  where
    same : x.gate-table ≡ y.gate-table
    same = got_same x.gate-table y.gate-table (sym x.gate-gets.leads ∙ y.gate-gets.leads)
