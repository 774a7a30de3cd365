-- The ways out of the check, by what it has found out. Assumes nothing.
use Rattle.std.specs.Prelude.{◌≡◌, Option, None, Result, Ok, Err, Bool, true, false, List, take, drop, leb, eqb}
use Rattle.std.proofs.Math.Path.{refl, sym, ap}
use Rattle.std.proofs.Common.{subst, ap₂, ◌∙◌, length-take-le}
use Prim.Native.Nat.{ℕ, ◌+◌, ◌≤◌, ◌<◌}
use native.Mathlib.Omega.{arith}
use Rattle.std.proofs.Math.ListN.{length, length-drop}
use Rattle.std.proofs.Math.Dec.{T}
use Rattle.std.specs.Option.{unwrap_or}
use Rattle.refusals.specs.Refusals.{number, no-zero, refusal_number}
use Rattle.refusals.specs.declared.Refusal.{Refusal}
use Rattle.rules.specs.Sizes.{max_jobs, max_limit, max_boards}
use Rattle.rules.specs.Basics.{at}
use Rattle.rules.specs.Fields.{Answer, refused, got, ask, after, value}
use Rattle.rules.specs.Needs.{Need, NeedsIn, circle_free}
use Rattle.rules.specs.JobFile.{JobFile, nth_job, name_ok, most_boards, job_of, read_file}
use Rattle.rules.specs.Table.{Table, nth_row, starts, boards_of, row_of, decode, labelled, needs_kept, row_start}
use Rattle.rules.specs.Answers.{check}
use Rattle.laws.specs.Tests.{tests, T_and, T-leb}
use Rattle.laws.specs.Lists.{nth-mem, tabulate-at}
use Rattle.laws.specs.Counting.{all_same}
use Rattle.laws.specs.Fields.{ask-yes, ask-no, number-refused}
use Rattle.laws.specs.JobFile.{Readable, readable}
use Rattle.laws.specs.Check.{q15, q16, q18}
use Rattle.laws.specs.Decoded.{row_number, decoded_table}
use Rattle.laws.proofs.Refusals.{read-got}
use Rattle.laws.specs.Numbers.{bytes-all}
use Rattle.jobfile.specs.Reading.{state_of, Held, Reads}
use Rattle.needrows.specs.Rows.{rows_size, RowsAre}
use Rattle.releases.specs.Ordered.{OfNeeds}
use Rattle.rows.specs.Rows.{Few, Decodes}
use Rattle.rows.specs.RowWays.{IsRow, row_is}
use Rattle.questions.specs.Questions.{labelled_by, Placed, labelled_in, RowsIn, rows_kept}
use Rattle.questions.specs.QuestionLaws.{kept-is, rows_in}
use Rattle.table.specs.Cells.{Lines, LinesRead, starts_in, boards_in, cells_in, lines_long, cells-yes, cells-no}
use Rattle.jobfile.specs.Whole.{most-given}
use Rattle.table.specs.Entries.{passed_of}
use Rattle.rows.specs.declared.Rows.{Rows}
use Rattle.jobfile.specs.declared.Counts.{Counts}

-- ---- what it has found out

-- both files, and what the reader of the job file left: its counts, where each job's field begins, and the rows of takers
pub record Given : Type 0 where
  pub file : List ℕ
  pub table : List ℕ
  pub counts : Counts
  pub offsets : List ℕ
  pub takers : List ℕ

-- how many jobs there are
abbrev pub jobs : Given → ℕ
jobs g = g.counts.jobs

-- the reader's answer is that of the rules
abbrev pub Answered : Given → Type 0
Answered g = Reads g.file (Ok g.counts) g.offsets g.takers

-- the answer to question 11 is that of the rules, for the needs that the rows hold
abbrev pub CircleAsked : Given → Bool → Type 0
CircleAsked g ok = (needs : List Need) → NeedsIn (jobs g) needs → RowsAre g.takers (jobs g) needs → ok ≡ circle_free (jobs g) needs

-- 15: has each job its name and its level in centimetres?
abbrev pub labels : Given → Lines → Bool
labels g r = labelled_in g.file g.offsets g.table r.offsets (jobs g)

-- 16 and 17, of slots, boards, starts and limit: the number of the first that says no, or 0
abbrev pub cells : Given → Lines → ℕ
cells g r = cells_in g.counts.limit g.counts.sockets (jobs g) r

-- 18: are the needs kept?
abbrev pub kept : Given → Lines → Bool
kept g r = rows_kept g.takers (starts_in (jobs g) r) (boards_in (jobs g) r)

-- questions 2 to 10 and 21 are yes
pub record FileRead (g : Given) : Type 0 where
  pub bytes : (i : ℕ) → at g.file i < 256
  pub reads : Answered g
  pub room : rows_size ≤ length g.takers

-- and 11
pub record NoCircle (g : Given) : Type 0 where
  pub file-read : FileRead g
  pub ok : Bool
  pub asked : CircleAsked g ok
  pub free : ok ≡ true

-- and 14: the rows are read, and are as many as the jobs
pub record RowsFit (g : Given) (r : Lines) : Type 0 where
  pub no-circle : NoCircle g
  pub rows-read : LinesRead g.table r
  pub count-is : r.counts.count ≡ jobs g

-- and 15
pub record LabelsRight (g : Given) (r : Lines) : Type 0 where
  pub rows_fit : RowsFit g r
  pub right : labels g r ≡ true

-- and 16 and 17
pub record CellsRight (g : Given) (r : Lines) : Type 0 where
  pub labels_right : LabelsRight g r
  pub right : cells g r ≡ 0

-- ---- the ways out

-- a refusal by question q
abbrev pub Refuses : Given → ℕ → Type 0
Refuses g q = refused q ≡ passed_of (check g.file g.table)

-- what the check gives
abbrev Gives : Given → Answer Table → Type 0
Gives g x = check g.file g.table ≡ x

refused-by : (g : Given) (q : ℕ) → Gives g (refused q) → Refuses g q
unfolding passed_of
refused-by g q e = rw e refl

-- ---- questions 2 to 10, and 21

-- the reader says no
pub file-refused : (file table : List ℕ) {r : Result Counts Refusal} {os ts : List ℕ} (q : Refusal) → Reads file r os ts → r ≡ Err q
    → refused (number q) ≡ passed_of (check file table)
unfolding check after passed_of
file-refused file table q reads e = rw (number-refused (read_file file) (number q) (ap refusal_number (sym e) ∙ reads.number_is) (no-zero q)) refl

ok-same : {a b : Counts} → ◌≡◌ {A = Result Counts Refusal} (Ok a) (Ok b) → a ≡ b
ok-same e = cc

module _ {g : Given} (read : FileRead g) where
  -- what the file says
  file-got : (f : JobFile) × (read_file g.file ≡ got f)
  file-got = read-got g.file (sym read.reads.number_is)

  abbrev job_file : JobFile
  job_file = file-got.0

  file-is : Readable job_file
  file-is = readable g.file (bytes-all g.file read.bytes) job_file file-got.1

  -- what the reader holds of it
  held : Held g.file job_file (state_of g.counts g.offsets g.takers)
  held = let w = read.reads.held job_file file-got.1 in subst (λ (c : Counts). Held g.file job_file (state_of c g.offsets g.takers)) (sym (ok-same w.1)) w.2

  -- so are the most boards, where it gives them, or eight
  most-are : unwrap_or g.counts.sockets max_boards ≡ most_boards job_file
  unfolding most_boards
  most-are = most-given g.counts.sockets job_file.sockets held.sockets-is

  -- so there are at most 400 jobs
  pub jobs-few : jobs g ≤ max_jobs
  jobs-few = held.few

  -- the needs are between them
  needs-in : NeedsIn (jobs g) job_file.needs
  needs-in a k m = let w = file-is.needs-in a k m in (omega (arith, w.0, held.jobs-is), omega (arith, w.1, held.jobs-is))

  -- and the rows hold them
  pub of-needs : OfNeeds g.takers (jobs g)
  of-needs = record {
    jobs-few = held.few;
    rows_fit = omega (arith, read.room, held.few);
    needs = job_file.needs;
    needs-in = needs-in;
    rows_are = held.rows_are;
  }

  pub takers-in : RowsIn g.takers (jobs g)
  takers-in = rows_in (jobs g) job_file.needs g.takers held.few needs-in held.rows_are read.room

  -- the limit and the most boards are within their bounds
  pub bounds-in : (g.counts.limit ≤ max_limit) × (unwrap_or g.counts.sockets max_boards ≤ max_boards)
  bounds-in = (omega (arith, held.limit_is, file-is.limit-in), rw most-are file-is.boards-in.1)

  -- ---- question 11

  module _ (ok : Bool) (circle-asked : CircleAsked g ok) where
    free : circle_free (length job_file.jobs) job_file.needs ≡ ok
    free = rw (← held.jobs-is) (sym (circle-asked job_file.needs needs-in held.rows_are))

    asked : Gives g (ask ok 11 (after (decode (eqb (length job_file.jobs)) g.table) (q15 job_file)))
    unfolding check after
    asked = rw file-got.1 (rw free refl)

    -- the needs are not free of circles
    pub circle : ok ≡ false → Refuses g 11
    unfolding ask
    circle e = refused-by g 11 (asked ∙ rw e refl)

-- ---- question 14

module _ {g : Given} (free : NoCircle g) where
  -- the file, and that the rows are one per job
  abbrev file_of : JobFile
  file_of = job_file free.file-read

  abbrev many : ℕ → Bool
  many = eqb (length file_of.jobs)

  decoding : Gives g (after (decode many g.table) (q15 file_of))
  unfolding ask
  decoding = asked free.file-read free.ok free.asked ∙ rw free.free refl

  -- the rows are not read
  pub not-read : {r : Option Rows} {os ss ns : List ℕ} → Decodes g.table r os ss ns → r ≡ None → Refuses g 14
  unfolding after
  not-read rows e = refused-by g 14 (decoding ∙ rw (rows.not-read e many few) refl)
    where
      few : Few many
      few n t = let p : length file_of.jobs ≡ n = simp tests at t in omega (arith, (file-is free.file-read).jobs-in)

  -- they are fewer than the jobs, or more
  pub other-count : (r : Lines) → LinesRead g.table r → (r.counts.count ≡ jobs g → ⊥) → Refuses g 14
  unfolding after
  other-count r rows n =
      let m = r.counts.count in
      refused-by g 14 (decoding ∙ rw (rows.decoded many, ask-no (many m) 14 (got (decoded_table g.table m)) other) refl)
    where
      other : T (many r.counts.count) → ⊥
      other t = let p : length file_of.jobs ≡ r.counts.count = simp tests at t in n (sym p ∙ sym (held free.file-read).jobs-is)

-- ---- question 15

module _ {g : Given} {r : Lines} (fit : RowsFit g r) where
  -- the file and the table
  abbrev f : JobFile
  f = file_of fit.no-circle

  abbrev t : Table
  t = decoded_table g.table r.counts.count

  file-held : Held g.file f (state_of g.counts g.offsets g.takers)
  file-held = held fit.no-circle.file-read

  size_is : length f.jobs ≡ r.counts.count
  size_is = sym (fit.count-is ∙ file-held.jobs-is)

  questions : Gives g (q15 f t)
  unfolding after
  questions =
      decoding fit.no-circle
      ∙ rw (fit.rows-read.decoded (eqb (length f.jobs)), ask-yes (eqb (length f.jobs) r.counts.count) 14 (got t) (simp tests size_is)) refl

  -- the arrays are long enough
  pub rows_long : (jobs g ≤ length r.starts) × (jobs g ≤ length r.boards)
  rows_long = let w = lines_long fit.rows-read (sym fit.count-is) in (w.0, w.1)

  -- the parts of the code have an entry per job
  pub starts-long : length (starts_in (jobs g) r) ≡ jobs g
  starts-long = length-take-le (jobs g) r.starts rows_long.0

  pub boards-long : length (boards_in (jobs g) r) ≡ jobs g
  boards-long = length-take-le (jobs g) r.boards rows_long.1

  -- and are those of the rows
  part : (l : List ℕ) → take (jobs g) l ≡ take r.counts.count l
  part l = ap (λ (n : ℕ). take n l) (sym fit.count-is)

  -- where the fields of job and row i begin
  pub placed : (i : ℕ) → i < jobs g → Placed g.file (at g.offsets i) g.table (at r.offsets i)
  placed i h = rw (fit.rows-read.offsets_are i (omega arith)) record {
    job-whole = file-held.offsets-whole i h;
    job-long = long (value g.file (at g.offsets i)) (rw (file-held.offsets_are i h) named);
    row-whole = row.is_whole;
    row-long = omega (arith, row.sizes);
  }
    where
      row : IsRow g.table (row_start g.table i)
      row = (row_is g.table (row_start g.table i)).0 (fit.rows-read.rows_are i (omega (arith, fit.count-is)))

      named : T (name_ok (nth_job f.jobs i).name)
      named = (file-is fit.no-circle.file-read).names_in (nth_job f.jobs i) (nth-mem f.jobs i _ (omega (arith, file-held.jobs-is)))

      long : (v : List ℕ) → T (name_ok (job_of v).name) → 2 ≤ length v
      long v n = unfold name_ok job_of in
          let w = (T_and (leb 1 (length (drop 2 v))) _).0 n in omega (arith, (T-leb 1 (length (drop 2 v))).0 w.0, length-drop 2 v)

  -- the row that the code looks at is row i
  row_same : (i : ℕ) → i < jobs g → row_of (value g.table (at r.offsets i)) ≡ nth_row t.rows i
  unfolding decoded_table row_number
  row_same i h =
      let l : i < r.counts.count = omega (arith, fit.count-is) in
      let z : 0 + i ≡ i = omega arith in
      rw (fit.rows-read.offsets_are i l) (sym (tabulate-at (row_number g.table) r.counts.count 0 i _ l ∙ ap (row_number g.table) z))

  -- the code's question is that of the rules
  labels-are : labels g r ≡ labelled (length f.jobs) f.jobs t.rows
  unfolding labelled_in labelled labelled_by
  labels-are = rw (← file-held.jobs-is) (all_same (jobs g) _ _ (λ i h. rw (file-held.offsets_are i h, row_same i h) refl))

  -- a job has another name or level
  pub wrong-label : labels g r ≡ false → Refuses g 15
  unfolding ask
  wrong-label e = refused-by g 15 (questions ∙ rw (sym labels-are ∙ e) refl)

-- ---- questions 16 and 17

module _ {g : Given} {r : Lines} (right : LabelsRight g r) where
  abbrev fits : RowsFit g r
  fits = right.rows_fit

  sixteen : Gives g (q16 (f fits) (t fits))
  unfolding ask
  sixteen = questions fits ∙ rw (sym (labels-are fits) ∙ right.right) refl

  -- question q says no
  pub bad-cells : {q : ℕ} → q ≡ cells g r → (q ≡ 0 → ⊥) → Refuses g q
  bad-cells {q} e n =
      let h = file-held fits in
      let x = q18 (f fits) (t fits) in
      let no = cells-no g.table r fits.rows-read g.counts.limit g.counts.sockets (jobs g) (sym fits.count-is) x q e n in
      refused-by g q (sixteen ∙ rw (size_is fits, ← h.limit_is, ← most-are fits.no-circle.file-read) no)

-- ---- question 18

module _ {g : Given} {r : Lines} (right : CellsRight g r) where
  abbrev fit : RowsFit g r
  fit = right.labels_right.rows_fit

  eighteen : Gives g (q18 (f fit) (t fit))
  eighteen =
      let h = file-held fit in
      let x = q18 (f fit) (t fit) in
      let yes = cells-yes g.table r fit.rows-read g.counts.limit g.counts.sockets (jobs g) (sym fit.count-is) x right.right in
      sixteen right.labels_right ∙ rw (size_is fit, ← h.limit_is, ← most-are fit.no-circle.file-read) yes

  -- the code's question is that of the rules
  kept-so : kept g r ≡ needs_kept (f fit).needs (starts (t fit)) (boards_of (t fit))
  kept-so =
      let read = fit.no-circle.file-read in
      let are = (held read).rows_are in
      kept-is (jobs g) (f fit).needs g.takers (starts_in (jobs g) r) (boards_in (jobs g) r) (jobs-few read) (needs-in read) are (starts-long fit)
      ∙ ap₂ (needs_kept (f fit).needs) (part fit r.starts ∙ fit.rows-read.starts-are) (part fit r.boards ∙ fit.rows-read.boards-are)

  -- a need is not kept
  pub need-broken : kept g r ≡ false → Refuses g 18
  unfolding ask
  need-broken e = refused-by g 18 (eighteen ∙ rw (sym kept-so ∙ e) refl)

  -- all questions are yes
  pub passes : kept g r ≡ true → got tt ≡ passed_of (check g.file g.table)
  unfolding ask passed_of
  passes e = rw (eighteen, sym kept-so ∙ e) refl
