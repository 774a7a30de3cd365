-- Demand 2 as one statement about the number that the check answers: 0 exactly for the bytes of a table for the job file;
-- and its 15 in words. Assumes nothing.
-- The definitions are in specs/Passing.antt; here are the theorems that depend on what a must-fail edit breaks.
use Rattle.std.specs.Prelude.{◌≡◌, ◌↔◌, List, ℕ}
use Rattle.rules.specs.Numbers.{Bytes}
use Rattle.rules.specs.Fields.{got, number_of}
use Rattle.rules.specs.Needs.{Circle}
use Rattle.rules.specs.JobFile.{JobFile, read_file}
use Rattle.rules.specs.Table.{Table, encode}
use Rattle.rules.specs.Answers.{check}
use Rattle.laws.specs.Check.{TableFor}
use Rattle.laws.proofs.Refusals.{check-passes}
use Rattle.laws.specs.Passing.{passed-file, check-reads, Passing}

-- a readable file without a circle, and any table of bytes
module _ (file : List ℕ) (bytes : Bytes file) (f : JobFile) (read : read_file file ≡ got f) (no-circle : ¬ (Circle f.needs))
    (table : List ℕ) (table-bytes : Bytes table) where
  -- "the check passes a table exactly when its starts satisfy P within the limit" and its boards and fields keep the rules: the number is 0
  -- exactly where the table is the bytes of one with a row for each job, and with all that `TableFor` says of it
  pub check-zero : (number_of (check file table) ≡ 0) ↔ ((t : Table) × (table ≡ encode t) × TableFor f t)
  check-zero = (
    λ z. let w = (check-passes file table).0 z in let r = (check-reads file bytes f read no-circle table table-bytes w.0).0 w.1 in (w.0, r.0, r.1),
    λ w. (check-passes file table).1 (w.0, (check-reads file bytes f read no-circle table table-bytes w.0).1 (w.1, w.2)),
  )

-- of any file and any table of bytes
pub passes-exactly : (file : List ℕ) → Bytes file → (table : List ℕ) → Bytes table → (number_of (check file table) ≡ 0) ↔ Passing file table
passes-exactly file bytes table table-bytes = (
  λ z. let w = (check-passes file table).0 z in
      let f = passed-file file bytes table w.0 w.1 in
      let r = (check-reads file bytes f.0 f.1 f.2 table table-bytes w.0).0 w.1 in
      record { says = f.0; read = f.1; no-circle = f.2; read_as = w.0; bytes-are = r.0; table-for = r.1 },
  λ p. (check-zero file bytes p.says p.read p.no-circle table table-bytes).1 (p.read_as, p.bytes-are, p.table-for),
)
