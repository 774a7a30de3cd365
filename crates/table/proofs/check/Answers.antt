-- `table::check` meets its contract. Assumes nothing.
use Rattle.std.proofs.Common.{refl, sym, ◌∙◌, ℕ, arith}
use Rattle.std.proofs.lemmas.List.{length-replicate}
use Rattle.std.proofs.lemmas.Result.{err_from_is_err_and}
use Rattle.refusals.specs.Refusals.{no-zero}
use Rattle.table.specs.Cells.{Lines, LinesRead}
use Rattle.table.specs.Checking.{Given, CircleAsked, FileRead, NoCircle, RowsFit, LabelsRight, CellsRight}
use Rattle.table.specs.Checking.{file-refused, jobs-few, of-needs, takers-in, bounds-in, circle, not-read, other-count}
use Rattle.table.specs.Checking.{rows_long, starts-long, boards-long}
use Rattle.table.specs.Checking.{placed, wrong-label, bad-cells, need-broken, passes}
use Rattle.table.proofs.check.Goals as goal
use Rattle.table.proofs.check.Goals.{In_ok-f, After-peel, at-After-peel, Else-not-peel, at-Else-not-peel, In-Some, at-In-Some, Else-t-jobs, at-Else-t-jobs}
use Rattle.table.proofs.check.Goals.{Else-not-labelled, at-Else-not-labelled, In_ok-cells, at-In_ok-cells}

-- ---- the way back, from landmark to landmark

-- from the circle test to the files
abbrev to-files : Else-not-peel → In_ok-f
to-files c = (at-After-peel (at-Else-not-peel c).After-peel).In_ok-f

-- from the rows to the circle test
abbrev to-circle : In-Some → Else-not-peel
to-circle c = (at-In-Some c).Else-not-peel

-- from the labels to the count of the rows
abbrev to-rows : Else-not-labelled → Else-t-jobs
to-rows c = (at-Else-not-labelled c).Else-t-jobs

-- ---- what is known on the way

-- the files, and what the reader left
abbrev given : In_ok-f → Given
given c =
    let a = c.args in
    let r = c.read_file in
    record { file = a.file.now; table = a.table.now; counts = c.in_ok-f.f; offsets = r.new.offsets; takers = r.new.rows }

-- questions 2 to 10 and 21 are yes
file-read : (c : In_ok-f) → FileRead (given c)
file-read c = record {
  bytes = λ i. omega (arith, c.type_inv.file i);
  reads = c.in_ok-f.ensures.0;
  room = omega (arith, c.in_ok-f.ensures.1, length-replicate {A = ℕ} 22400 0);
}

-- the answer to 11
circle-asked : (c : After-peel) → CircleAsked (given (at-After-peel c).In_ok-f) c.peel.result
circle-asked c ns needs-in are = (c.peel.ensures ns needs-in are).answer

-- it is yes
no-circle : (c : Else-not-peel) → NoCircle (given (to-files c))
no-circle c = record {
  file-read = file-read (to-files c);
  ok = c.peel.result;
  asked = circle-asked (at-Else-not-peel c).After-peel;
  free = c.if-not-peel.false;
}

-- what the reader of the table left
abbrev lines : In-Some → Lines
lines c =
    let r = c.read_rows in
    record { counts = c.in-Some.t; offsets = r.new.offset; starts = r.new.start; boards = r.new.board }

-- the rows are read
rows-read : (c : In-Some) → LinesRead (given (to-files (to-circle c))).table (lines c)
rows-read c = c.read_rows.ensures.held _ c.in-Some.is

-- the same files, and the rows
abbrev still-given : Else-t-jobs → Given
still-given c = given (to-files (to-circle (at-Else-t-jobs c).In-Some))

abbrev rows : Else-t-jobs → Lines
rows c = lines (at-Else-t-jobs c).In-Some

-- 14 is yes: they are one per job
rows_fit : (c : Else-t-jobs) → RowsFit (still-given c) (rows c)
rows_fit c = record {
  no-circle = no-circle (to-circle (at-Else-t-jobs c).In-Some);
  rows-read = rows-read (at-Else-t-jobs c).In-Some;
  count-is = c.if-t-jobs.false;
}

-- 15 is
labels_right : (c : Else-not-labelled) → LabelsRight (still-given (to-rows c)) (rows (to-rows c))
labels_right c = record { rows_fit = rows_fit (to-rows c); right = sym c.labelled.ensures ∙ c.if-not-labelled.false }

-- 16 and 17 are
cells_right : (c : In_ok-cells) → let e = to-rows (at-In_ok-cells c).Else-not-labelled in CellsRight (still-given e) (rows e)
cells_right c = record { labels_right = labels_right (at-In_ok-cells c).Else-not-labelled; right = sym c.in_ok-cells.ensures }

pub returns-in_err-f : goal.returns-in_err-f
returns-in_err-f c =
    let p = err_from_is_err_and c.from_residual.result c.from_residual.ensures.1 in
    rw (p.1, p.2) (file-refused _ _ _ c.read_file.ensures.0 c.in_err-f.was)

pub peel-requires : goal.peel-requires
peel-requires c = (of-needs (file-read (goal.at.peel-requires c).In_ok-f), length-replicate {A = ℕ} 400 0, refl)

pub returns-then-not-peel : goal.returns-then-not-peel
returns-then-not-peel c =
    let w = (goal.at.returns-then-not-peel c).After-peel in
    circle (file-read (at-After-peel w).In_ok-f) c.peel.result (circle-asked w) c.if-not-peel.true

pub returns-in_default : goal.returns-in_default
returns-in_default c = not-read (no-circle (goal.at.returns-in_default c).Else-not-peel) c.read_rows.ensures c.in_default.is

pub returns-then-t-jobs : goal.returns-then-t-jobs
returns-then-t-jobs c =
    let w = (goal.at.returns-then-t-jobs c).In-Some in other-count (no-circle (to-circle w)) (lines w) (rows-read w) c.if-t-jobs.true

pub labelled-requires : goal.labelled-requires
labelled-requires c = let fit = rows_fit (goal.at.labelled-requires c).Else-t-jobs in (jobs-few fit.no-circle.file-read, placed fit)

pub returns-then-not-labelled : goal.returns-then-not-labelled
returns-then-not-labelled c = wrong-label (rows_fit (goal.at.returns-then-not-labelled c).Else-t-jobs) (sym c.labelled.ensures ∙ c.if-not-labelled.true)

pub slice_bounds-start-end : goal.slice_bounds-start-end
slice_bounds-start-end c = (rows_long (rows_fit (to-rows (goal.at.slice_bounds-start-end c).Else-not-labelled))).0

pub slice_bounds-board-end : goal.slice_bounds-board-end
slice_bounds-board-end c = (rows_long (rows_fit (to-rows (goal.at.slice_bounds-board-end c).Else-not-labelled))).1

pub cells-requires : goal.cells-requires
cells-requires c =
    let fit = rows_fit (to-rows (goal.at.cells-requires c).Else-not-labelled) in
    let b = bounds-in fit.no-circle.file-read in
    (boards-long fit ∙ sym (starts-long fit), b.0, b.1)

pub returns-in_err-cells : goal.returns-in_err-cells
returns-in_err-cells c =
    let p = err_from_is_err_and c.from_residual-in_err-cells.result c.from_residual-in_err-cells.ensures.1 in
    rw (p.1, p.2) (bad-cells (labels_right (goal.at.returns-in_err-cells c).Else-not-labelled) c.in_err-cells.ensures (no-zero _))

pub needs_kept-requires : goal.needs_kept-requires
needs_kept-requires c =
    let fit = rows_fit (to-rows (at-In_ok-cells (goal.at.needs_kept-requires c).In_ok-cells).Else-not-labelled) in
    (boards-long fit ∙ sym (starts-long fit), rw (starts-long fit) (takers-in fit.no-circle.file-read))

pub returns-then-not-needs_kept : goal.returns-then-not-needs_kept
returns-then-not-needs_kept c =
    need-broken (cells_right (goal.at.returns-then-not-needs_kept c).In_ok-cells) (sym c.needs_kept.ensures ∙ c.if-not-needs_kept.true)

pub returns : goal.returns
returns c = passes (cells_right (goal.at.returns c).In_ok-cells) (sym c.needs_kept.ensures ∙ c.if-not-needs_kept.false)
