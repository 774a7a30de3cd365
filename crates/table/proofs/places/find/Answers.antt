-- `table::places::find` meets its contract. Assumes nothing.
use Rattle.std.proofs.Common.{◌≡◌, ◌∙◌, refl, sym, ap, ℕ, ◌+◌, ◌-◌, ◌<◌, add-one, arith, rules}
use Rattle.std.proofs.lemmas.Result.{err_from_is_err_and}
use Rattle.rules.specs.Sizes.{max_jobs}
use Rattle.rules.specs.Basics.{at}
use Rattle.table.specs.Entries.{row_number}
use Rattle.refusals.specs.Refusals.{refusal_number}
use Rattle.refusals.specs.Refusals.{no-zero}
use Rattle.table.specs.Cells.{LinesRead, lines_long}
use Rattle.table.specs.Finding.{Asked, job, TableRead, CellsRight, JobFound}
use Rattle.table.specs.Finding.{not-read, no_rows, bad-cells, idle, row_in, row-whole, found_here}
use Rattle.table.proofs.places.find.Goals as goal
use Rattle.table.proofs.places.find.Goals.{In-Some, Else-n-lt1, at-Else-n-lt1, In_ok-cells, at-In_ok-cells, In-Some-row_at, at-In-Some-row_at}

-- the table, what is asked for, and what the reader left
abbrev asked : In-Some → Asked
asked c =
    let a = c.args in
    let r = c.read_rows in
    record {
      table = a.table.now;
      slot = a.slot;
      board = a.board;
      lines = record { counts = c.in-Some.t; offsets = r.new.offset; starts = r.new.start; boards = r.new.board };
    }

-- the rows are read
lines-read : (c : In-Some) → LinesRead (asked c).table (asked c).lines
lines-read c = c.read_rows.ensures.held _ c.in-Some.is

-- question 14 is yes
table-read : (c : Else-n-lt1) → TableRead (asked (at-Else-n-lt1 c).In-Some)
table-read c = record { read = lines-read (at-Else-n-lt1 c).In-Some; some = c.if-n-lt1.false }

-- 16 and 17 are
cells_right : (c : In_ok-cells) → CellsRight (asked (at-Else-n-lt1 (at-In_ok-cells c).Else-n-lt1).In-Some)
cells_right c = record { table-read = table-read (at-In_ok-cells c).Else-n-lt1; right = sym c.cells.ensures ∙ ap refusal_number c.in_ok-cells.was }

-- there is a job
job-found : (c : In-Some-row_at)
    → JobFound (asked (at-Else-n-lt1 (at-In_ok-cells (at-In-Some-row_at c).In_ok-cells).Else-n-lt1).In-Some) (c.in-Some-row_at.index + 1)
job-found c = record {
  cells_right = cells_right (at-In-Some-row_at c).In_ok-cells;
  job_is = add-one _ ∙ c.in-Some-row_at.ensures;
  one = λ e. omega arith;
}

-- its row is one of at most 400
few : (c : In_ok-cells) (i : ℕ) → i + 1 ≡ job (asked (at-Else-n-lt1 (at-In_ok-cells c).Else-n-lt1).In-Some) → i < max_jobs
few c i e =
    let f : JobFound (asked (at-Else-n-lt1 (at-In_ok-cells c).Else-n-lt1).In-Some) (i + 1) =
    record { cells_right = cells_right c; job_is = e; one = λ z. omega arith } in
    let h = row_in f in
    let l = lines_long f.cells_right.table-read.read refl in
    omega arith

-- the row is that of the job
row-is : (c : In-Some-row_at) → c.in-Some-row_at.index ≡ c.in-Some-row_at.index + 1 - 1
row-is c = omega arith

pub returns-in_default : goal.returns-in_default
returns-in_default c = not-read _ _ _ c.read_rows.ensures c.in_default.is

pub returns-then-n-lt1 : goal.returns-then-n-lt1
returns-then-n-lt1 c = let w = (goal.at.returns-then-n-lt1 c).In-Some in no_rows (asked w) (lines-read w) c.if-n-lt1.true

pub slice_bounds-starts-end : goal.slice_bounds-starts-end
slice_bounds-starts-end c = (lines_long (table-read (goal.at.slice_bounds-starts-end c).Else-n-lt1).read refl).0

pub slice_bounds-boards-end : goal.slice_bounds-boards-end
slice_bounds-boards-end c = (lines_long (table-read (goal.at.slice_bounds-boards-end c).Else-n-lt1).read refl).1

pub returns-in_err-cells : goal.returns-in_err-cells
returns-in_err-cells c =
    let p = err_from_is_err_and c.from_residual.result c.from_residual.ensures.1 in
    rw (p.1, p.2) (bad-cells (table-read (goal.at.returns-in_err-cells c).Else-n-lt1) c.in_err-cells.ensures (no-zero _))

pub returns-in_default-row_at : goal.returns-in_default-row_at
returns-in_default-row_at c =
    idle (cells_right (goal.at.returns-in_default-row_at c).In_ok-cells) (ap row_number (sym c.in_default-row_at.is) ∙ c.row_at.ensures) refl

pub offset_bounds-rows-index : goal.offset_bounds-rows-index
offset_bounds-rows-index c =
    let h = few (goal.at.offset_bounds-rows-index c).In_ok-cells c.in-Some-row_at.index (add-one _ ∙ c.in-Some-row_at.ensures) in search rules

pub bounds-rows-index : goal.bounds-rows-index
bounds-rows-index c =
    let h = few (goal.at.bounds-rows-index c).In_ok-cells c.in-Some-row_at.index (add-one _ ∙ c.in-Some-row_at.ensures) in omega arith

pub value_at-v-requires : goal.value_at-v-requires
value_at-v-requires c =
    let w = (goal.at.value_at-v-requires c).In-Some-row_at in row-whole (job-found w) (c.from-row.ensures ∙ ap (at _) (row-is w))

pub overflow_add-result : goal.overflow_add-result
overflow_add-result c =
    let w = (goal.at.overflow_add-result c).In-Some-row_at in
    let h = few (at-In-Some-row_at w).In_ok-cells c.in-Some-row_at.index (job-found w).job_is in
    search rules

pub returns : goal.returns
returns c =
    let w = (goal.at.returns c).In-Some-row_at in found_here (job-found w) (c.from-row.ensures ∙ ap (at _) (row-is w)) c.value_at-v.ensures
