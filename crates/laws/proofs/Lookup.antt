-- The lookup: slot and board of a job give its number and its name, all else is idle; and so of every table that passes the check. Assumes nothing.
-- The definitions are in specs/Lookup.antt; here are the theorems that depend on what a must-fail edit breaks.
use Rattle.std.specs.Prelude.{◌≡◌, ◌&&◌, length, T, leb}
use Rattle.std.proofs.Common.{sym, ap, ◌∙◌}
use mathlib.Core.List.{List}
use Prim.Native.Nat.{ℕ, ◌<◌}
use native.Mathlib.Omega.{arith}
use Rattle.std.proofs.Math.Dec.{eqb}
use Rattle.rules.specs.Sizes.{max_jobs}
use Rattle.rules.specs.Basics.{at}
use Rattle.rules.specs.Numbers.{Bytes}
use Rattle.rules.specs.Fields.{got}
use Rattle.rules.specs.Needs.{Circle}
use Rattle.rules.specs.JobFile.{JobFile, most_boards, read_file}
use Rattle.rules.specs.Table.{Table, nth_row, starts, boards_of, encode, decode}
use Rattle.rules.specs.Answers.{table_of, plan, check, lookup_table, name_at}
use Rattle.laws.specs.Tests.{tests}
use Rattle.laws.specs.Fields.{got_same}
use Rattle.laws.specs.JobFile.{Readable, readable}
use Rattle.laws.specs.Table.{DecodesTo, decodes-to}
use Rattle.laws.specs.Check.{Sized, TableFor, check-exactly}
use Rattle.laws.specs.Passing.{passed-file}
use Rattle.laws.proofs.Demands.{reads-back-passes}
use Rattle.laws.specs.Lookup.{usable-is, lookup-job, lookup-idle, name-of-row, LooksUp, PlannedLookup}

-- ---- the table that the lookup uses

module _ (table : List ℕ) (t : Table) (used : lookup_table table ≡ got t) where
  -- slot and board of a job give its name
  pub name-job : (i : ℕ) → i < length t.rows → name_at table (at (starts t) i) (at (boards_of t) i) ≡ (nth_row t.rows i).name
  name-job i h = name-of-row table t used (at (starts t) i) (at (boards_of t) i) i (lookup-job table t used i h)

-- ---- a table that passes the check

-- what is asked of a table for a file is asked of it without the file, with greater bounds
table-used : (f : JobFile) → Readable f → (table : List ℕ) (t : Table) → decode (eqb (length f.jobs)) table ≡ got t → TableFor f t
    → lookup_table table ≡ got t
table-used f ok table t d keeps = (usable-is table t).1 record {
  decodes = (decodes-to _ table t).1 record { head = p.head; rows_are = p.rows_are; few-rows = few; slots-is = p.slots-is; boards-is = p.boards-is };
  sizes = record {
    slots-are = s.slots-are;
    fits = omega (arith, s.fits, ok.limit-in);
    boards-low = s.boards-low;
    boards-are = s.boards-are;
    boards-few = omega (arith, s.boards-few, ok.boards-in);
  };
  apart = λ i j h k. keeps.board-rules.apart i j (omega (arith, keeps.rows_are)) (omega (arith, keeps.rows_are));
}
  where
    p : DecodesTo (eqb (length f.jobs)) table t
    p = (decodes-to (eqb (length f.jobs)) table t).0 d

    s : Sized f.limit (most_boards f) t
    s = keeps.sizes

    few : T (leb 1 (length t.rows) && leb (length t.rows) max_jobs)
    few = simp tests (omega (arith, keeps.rows_are, ok.jobs-in))

-- so a table that passes the check for a file is looked up with the file's jobs and names
pub passed-lookup : (file : List ℕ) → Bytes file → (f : JobFile) → read_file file ≡ got f → (table : List ℕ) (t : Table) → check file table ≡ got t
    → LooksUp f table t
passed-lookup file bytes f read table t e = record {
  used = u;
  job = λ i h. lookup-job table t u i (omega (arith, keeps.rows_are));
  name = λ i h. name-job table t u i (omega (arith, keeps.rows_are)) ∙ keeps.labels.names i h;
  idle = λ s b none. lookup-idle table t u s b (λ i w. none i (omega (arith, w.row_in, keeps.rows_are)) w.slot_is w.board-is);
}
  where
    w : (g : JobFile) × (read_file file ≡ got g) × ¬ (Circle g.needs)
    w = passed-file file bytes table t e

    same : w.0 ≡ f
    same = got_same w.0 f (sym w.1 ∙ read)

    exactly : (decode (eqb (length f.jobs)) table ≡ got t) × TableFor f t
    exactly = (check-exactly file bytes f read (rw same at w.2) table t).0 e

    keeps : TableFor f t
    keeps = exactly.1

    u : lookup_table table ≡ got t
    u = table-used f (readable file bytes f read) table t exactly.0 keeps

-- ---- a table that the planner writes

-- every table that the planner writes is looked up so
pub planned-lookup : (file work table : List ℕ) → Bytes file → (plan file work table).number ≡ 0 → PlannedLookup file (plan file work table)
planned-lookup file work table bytes z =
    let r = reads-back-passes file work table bytes z in
    let f = r.file-read in
    let l = passed-lookup file bytes f r.read (encode (table_of f r.list)) (table_of f r.list) r.passes in
    record {
      file-read = f;
      read = r.read;
      list = r.list;
      planned = r.planned;
      job = λ i h. rw (r.bytes-are, ← r.boards-back, ap (λ (t : List ℕ). at t i) (sym r.starts-back)) (l.job i h);
      name = λ i h. rw (r.bytes-are, ← r.boards-back, ap (λ (t : List ℕ). at t i) (sym r.starts-back)) (l.name i h);
      idle = λ s b none. rw r.bytes-are (l.idle s b (rw (r.starts-back, r.boards-back) none));
    }
