-- The ways out of the lookup, by what it has tested. Assumes nothing.
use Rattle.std.specs.Prelude.{◌≡◌, Option, Some, None, ◌&&◌, List, ℕ, zero, suc, ◌+◌, ◌-◌, ◌≤◌, ◌<◌, T}
use Rattle.std.proofs.Math.Path.{refl, sym, ap}
use Rattle.std.proofs.Common.{subst, ◌∙◌, arith}
use Rattle.std.proofs.Math.ListN.{length}
use Rattle.std.proofs.Math.Dec.{leb}
use Rattle.rules.specs.Sizes.{max_jobs, max_limit, table_size}
use Rattle.rules.specs.Basics.{choose, at}
use Rattle.rules.specs.Fields.{Answer, refused, got, after, field_end, value, whole}
use Rattle.rules.specs.Table.{Table, row_start}
use Rattle.rules.specs.Answers.{job_at, lookup_table, lookup, name_span}
use Rattle.laws.specs.Tests.{tests}
use Rattle.laws.specs.Fields.{ask-yes, ask-no, whole_is, length-value, after-head}
use Rattle.laws.specs.Decoded.{decoded_table}
use Rattle.laws.specs.Lookup.{job-row}
use Rattle.table.specs.declared.places.Place.{Place}
use Rattle.rows.specs.declared.Rows.{Rows}
use Rattle.rows.specs.Rows.{Decodes}
use Rattle.rows.specs.RowWays.{IsRow, row_is}
use Rattle.table.specs.Cells.{rows-length, Lines, LinesRead, starts_in, boards_in, cells_in, ask_cells, cells-yes, cells-no}
use Rattle.table.specs.Lookup.{job-at}
use Rattle.table.specs.Names.{job-few, name-lies}
use Rattle.table.specs.Entries.{job_in, found_of, place_of, job_of}

-- ---- what it has found out

-- the table, the slot and the board that are asked for, and what the reader of the table left
pub record Asked : Type 0 where
  pub table : List ℕ
  pub slot : ℕ
  pub board : ℕ
  pub lines : Lines

-- how many rows there are
abbrev pub rows : Asked → ℕ
rows a = a.lines.counts.count

-- 16 and 17, for any job file: the number of the first that says no, or 0
abbrev pub cells : Asked → ℕ
cells a = cells_in max_limit None (rows a) a.lines

-- the number of the first row with the slot and the board, or 0
abbrev pub job : Asked → ℕ
job a = job_in 1 (starts_in (rows a) a.lines) (boards_in (rows a) a.lines) a.slot a.board

-- question 14 is yes: there are rows
pub record TableRead (a : Asked) : Type 0 where
  pub read : LinesRead a.table a.lines
  pub some : 1 ≤ rows a

-- and 16 and 17
pub record CellsRight (a : Asked) : Type 0 where
  pub table-read : TableRead a
  pub right : cells a ≡ 0

-- and there is a job, the one with number j
pub record JobFound (a : Asked) (j : ℕ) : Type 0 where
  pub cells_right : CellsRight a
  pub job_is : j ≡ job a
  pub one : j ≡ 0 → ⊥

-- ---- the ways out

-- the answer is this place
abbrev pub Finds : Asked → Answer (Option Place) → Type 0
Finds a p = p ≡ place_of a.table (lookup a.table a.slot a.board)

refused-by : (bs : List ℕ) (s b q : ℕ) → lookup_table bs ≡ refused q → refused q ≡ place_of bs (lookup bs s b)
unfolding lookup place_of after
refused-by bs s b q e = rw e refl

-- the rows are not read
pub not-read : (bs : List ℕ) (s b : ℕ) {r : Option Rows} {os ss ns : List ℕ} → Decodes bs r os ss ns → r ≡ None → refused 14 ≡ place_of bs (lookup bs s b)
unfolding lookup_table after
not-read bs s b asked e = refused-by bs s b 14 (rw (asked.not-read e (λ n. leb 1 n && leb n max_jobs) (λ n t. let w = simp tests at t in w.1)) refl)

-- there are none
pub no_rows : (a : Asked) → LinesRead a.table a.lines → rows a < 1 → Finds a (refused 14)
unfolding lookup_table after
no_rows a read h = refused-by a.table a.slot a.board 14 (rw (
  read.decoded (λ n. leb 1 n && leb n max_jobs),
  ask-no (leb 1 (rows a) && leb (rows a) max_jobs) 14 (got (decoded_table a.table (rows a))) (λ t. let w = simp tests at t in omega arith),
) refl)

-- the table, from its rows
abbrev table_of : Asked → Table
table_of a = decoded_table a.table (rows a)

module _ {a : Asked} (r : TableRead a) where
  asks : lookup_table a.table ≡ ask_cells a.table a.lines r.read max_limit None (rows a) refl (got (table_of a))
  unfolding lookup_table after choose
  asks = rw (
    r.read.decoded (λ n. leb 1 n && leb n max_jobs),
    ask-yes (leb 1 (rows a) && leb (rows a) max_jobs) 14 (got (table_of a)) (simp tests (r.some, r.read.count-in)),
    rows-length a.table (rows a),
  ) refl

  -- question 16 or 17 says no
  pub bad-cells : {q : ℕ} → q ≡ cells a → (q ≡ 0 → ⊥) → Finds a (refused q)
  bad-cells {q} e n = refused-by a.table a.slot a.board q (asks ∙ cells-no a.table a.lines r.read max_limit None (rows a) refl (got (table_of a)) q e n)

module _ {a : Asked} (r : CellsRight a) where
  abbrev lines-read : LinesRead a.table a.lines
  lines-read = r.table-read.read

  job-at-is : job_at 1 (table_of a).rows a.slot a.board ≡ job a
  job-at-is = job-at 1 (table_of a).rows a.slot a.board ∙ sym (rw (lines-read.starts-are, lines-read.boards-are) refl)

  answered : lookup a.table a.slot a.board ≡ got (job a)
  unfolding lookup after
  answered =
      rw (asks r.table-read ∙ cells-yes a.table a.lines lines-read max_limit None (rows a) refl (got (table_of a)) r.right)
      (ap got job-at-is)

  -- no row has the slot and the board
  pub idle : {j : ℕ} → j ≡ job a → j ≡ 0 → Finds a (got None)
  unfolding place_of
  idle e z = rw (answered, sym e ∙ z) refl

module _ {a : Asked} {j : ℕ} (f : JobFound a j) where
  abbrev read-so : LinesRead a.table a.lines
  read-so = f.cells_right.table-read.read

  next : j ≡ suc (j - 1)
  next = let h = f.one in omega arith

  -- the job's row
  pub row_in : j - 1 < rows a
  row_in =
      let w = job-row a.slot a.board 1 (table_of a).rows (j - 1) (job-at-is f.cells_right ∙ sym f.job_is ∙ next) in
      omega (arith, w.1, w.2.row_in, rows-length a.table (rows a))

  module _ {o : ℕ} (o_is : o ≡ at a.lines.offsets (j - 1)) where
    -- it starts at offset o
    row_here : o ≡ row_start a.table (j - 1)
    row_here = o_is ∙ read-so.offsets_are (j - 1) row_in

    row_at : IsRow a.table o
    row_at = (row_is a.table o).0 (rw row_here (read-so.rows_are (j - 1) row_in))

    pub row-whole : T (whole a.table o)
    row-whole = row_at.is_whole

    -- its end is in the table
    pub row_ends : {v : List ℕ} → v ≡ value a.table o → (5 ≤ length v) × (o + 3 + length v ≤ length a.table)
    row_ends w = omega (arith, ap length w, row_at.sizes, length-value a.table o row-whole, (whole_is a.table o).0 row-whole)

    pub found_here : {v : List ℕ} → v ≡ value a.table o → Finds a (got (Some (record { job = j; start = o + 7; end = o + 3 + length v })))
    unfolding place_of name_span row_start
    found_here {v} w =
        let l : o + 3 + length v ≡ field_end a.table o = omega (arith, ap length w, length-value a.table o row-whole, after-head a.table o) in
        rw (answered f.cells_right, sym f.job_is ∙ next, l, row_here) (rw (sym next) refl)

-- ---- what a place says

-- the job of the place is the lookup's answer
pub job-found : (bs : List ℕ) (x : Answer ℕ) → job_of (place_of bs x) ≡ found_of x
unfolding job_of place_of found_of
job-found bs (refused q) = refl
job-found bs (got zero) = refl
job-found bs (got (suc i)) = refl

-- a name lies in the table, and near its front
unfoldable Lies : List ℕ → Answer (Option Place) → Type 0
Lies bs (refused q) = Unit {0}
Lies bs (got None) = Unit {0}
Lies bs (got (Some p)) = (p.start ≤ p.end) × (p.end ≤ length bs) × (p.end ≤ table_size)

lies : (bs : List ℕ) (s b : ℕ) → Lies bs (place_of bs (lookup bs s b))
lies bs s b = go (lookup bs s b) refl
  where
    go : (x : Answer ℕ) → lookup bs s b ≡ x → Lies bs (place_of bs x)
    go (refused q) e = unfold Lies place_of in tt
    go (got zero) e = unfold Lies place_of in tt
    go (got (suc i)) e = unfold Lies place_of name_span in name-lies bs s b i e

pub name_in : (bs : List ℕ) (s b : ℕ) (p : Place) → place_of bs (lookup bs s b) ≡ got (Some p) → (p.start ≤ p.end) × (p.end ≤ length bs) × (p.end ≤ table_size)
unfolding Lies
name_in bs s b p q = subst (Lies bs) q (lies bs s b)

-- a job's number is at most 400
unfoldable Small : Answer (Option ℕ) → Type 0
Small (refused q) = Unit {0}
Small (got None) = Unit {0}
Small (got (Some j)) = j ≤ max_jobs

small : (bs : List ℕ) (s b : ℕ) → Small (found_of (lookup bs s b))
small bs s b = go (lookup bs s b) refl
  where
    go : (x : Answer ℕ) → lookup bs s b ≡ x → Small (found_of x)
    go (refused q) e = unfold Small found_of in tt
    go (got zero) e = unfold Small found_of in tt
    go (got (suc i)) e = unfold Small found_of in job-few bs s b (suc i) e

pub job-small : (bs : List ℕ) (s b j : ℕ) → found_of (lookup bs s b) ≡ got (Some j) → j ≤ max_jobs
unfolding Small
job-small bs s b j q = subst Small q (small bs s b)
