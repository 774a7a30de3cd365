-- Demand 2 as one statement about the number that the check answers: 0 exactly for the bytes of a table for the job file;
-- and its 15 in words. Assumes nothing.
use Rattle.std.specs.Prelude.{◌≡◌, ◌↔◌, Bool, true, false, not, List, ℕ, ◌%◌, ◌<◌, length, T, eqb, ℤ, nat_abs}
use Rattle.std.proofs.Math.Path.{refl, subst}
use Rattle.std.proofs.Common.{sym, ◌∙◌, arith}
use Rattle.rules.specs.Basics.{all, range}
use Rattle.rules.specs.Numbers.{Bytes}
use Rattle.rules.specs.Fields.{Answer, refused, got, number_of, after}
use Rattle.rules.specs.Needs.{Circle, circle_free}
use Rattle.rules.specs.JobFile.{Job, JobFile, nth_job, read_file}
use Rattle.rules.specs.Table.{Row, Table, nth_row, encode, decode, labelled}
use Rattle.rules.specs.Answers.{check}
use Rattle.laws.specs.Tests.{tests, T-eqb, not-all}
use Rattle.laws.specs.Counting.{range-below}
use Rattle.laws.specs.Rounding.{rounds-exactly, half_away, half-away-same}
use Rattle.laws.specs.Fields.{ask-got, after-got}
use Rattle.laws.specs.JobFile.{needs-in, readable}
use Rattle.laws.specs.Circles.{circle-free}
use Rattle.laws.specs.Table.{decode-encode}
use Rattle.laws.specs.Decoded.{encode-decode}
use Rattle.laws.specs.Check.{Labelled, labelled-is, TableFor, table-writable, q16, check-asks, check-exactly}
use Rattle.laws.specs.Refusals.{Refusal, asked-number, decode-number, rows-refusal}

-- "The check asks 2 to 11 of the job file": a table passes only for a readable file without a circle
pub passed-file : (file : List ℕ) → Bytes file → (table : List ℕ) (t : Table) → check file table ≡ got t
    → (f : JobFile) × (read_file file ≡ got f) × ¬ (Circle f.needs)
unfolding check
passed-file file bytes table t e =
    let w = after-got (read_file file) _ t e in
    let a = ask-got (circle_free (length w.0.jobs) w.0.needs) 11 _ t w.2 in
    (w.0, w.1, (circle-free (length w.0.jobs) w.0.needs (needs-in w.0 (readable file bytes w.0 w.1))).0 a.0)

-- a readable file without a circle, and any table of bytes
module _ (file : List ℕ) (bytes : Bytes file) (f : JobFile) (read : read_file file ≡ got f) (no-circle : ¬ (Circle f.needs))
    (table : List ℕ) (table-bytes : Bytes table) where
  -- the check reads a table for the file from the bytes of just that table
  pub check-reads : (t : Table) → (check file table ≡ got t) ↔ ((table ≡ encode t) × TableFor f t)
  check-reads t = (
    λ e. let w = exactly.0 e in (sym (encode-decode table table-bytes (eqb (length f.jobs)) t w.0), w.1),
    λ w. exactly.1 (rw w.0 (decode-encode (eqb (length f.jobs)) t (table-writable f (readable file bytes f read) t w.1) (as_many w.1)), w.1),
  )
    where
      exactly : (check file table ≡ got t) ↔ ((decode (eqb (length f.jobs)) table ≡ got t) × TableFor f t)
      exactly = check-exactly file bytes f read no-circle table t

      as_many : TableFor f t → T (eqb (length f.jobs) (length t.rows))
      as_many k = (T-eqb (length f.jobs) (length t.rows)).1 (sym k.rows_are)

-- what the number 0 says of a job file and a table: the file is readable and without a circle, and the table is the bytes of a table for it
pub record Passing (file table : List ℕ) : Type 0 where
  pub says : JobFile
  pub read : read_file file ≡ got says
  pub no-circle : ¬ (Circle says.needs)
  pub read_as : Table
  pub bytes-are : table ≡ encode read_as
  pub table-for : TableFor says read_as

-- ---- 15

-- each row has its job's name, and its job's level as it was rounded before document 02's request 4
pub record LabelledBefore (n : ℕ) (jobs : List Job) (rows : List Row) : Type 0 where
  pub names : (i : ℕ) → i < n → (nth_row rows i).name ≡ (nth_job jobs i).name
  pub levels : (i : ℕ) → i < n → (nth_row rows i).level ≡ half_away (nth_job jobs i).level

-- a readable file without a circle, and any table
module _ (file : List ℕ) (bytes : Bytes file) (f : JobFile) (read : read_file file ≡ got f) (no-circle : ¬ (Circle f.needs)) (table : List ℕ) where
  abbrev n : ℕ
  n = length f.jobs

  -- question 15, asked of a table with a row for each job
  asked-15 : (t : Table) → decode (eqb n) table ≡ got t → (number_of (check file table) ≡ 15) ↔ (¬ (Labelled n f.jobs t.rows))
  unfolding after
  asked-15 t decoded =
      let labels = labelled-is n f.jobs t.rows in
      let others = rows-refusal (λ p. p ≡ 15 → ⊥) (λ q h e. omega (arith, h, e)) f t in
      let w = asked-number (labelled n f.jobs t.rows) 15 (q16 f t) (λ z. omega (arith, z)) others in
      rw (check-asks file bytes f read no-circle table, decoded) (λ e k. w.0 e (labels.1 k), λ k. w.1 (λ l. k (labels.0 l)))

  -- the check answers 15 exactly where the table decodes with a row for each job, and not every row has its job's name and its job's level rounded
  pub checks-15 : (number_of (check file table) ≡ 15) ↔ ((t : Table) × (decode (eqb n) table ≡ got t) × ¬ (Labelled n f.jobs t.rows))
  checks-15 = (to (decode (eqb n) table) refl, λ w. (asked-15 w.0 w.1).1 w.2)
    where
      to : (r : Answer Table) → decode (eqb n) table ≡ r → number_of (check file table) ≡ 15
          → (t : Table) × (decode (eqb n) table ≡ got t) × ¬ (Labelled n f.jobs t.rows)
      to (got t) d e = (t, d, (asked-15 t d).0 e)
      to (refused q) d e = unfold Refusal number_of after in
          let is-14 : q ≡ 14 = subst (Refusal (λ p. p ≡ 14)) d (decode-number (λ p. p ≡ 14) refl (eqb n) table) in
          let is-q : number_of (check file table) ≡ q = rw (check-asks file bytes f read no-circle table, d) refl in
          absurd (omega (arith, e, is-14, is-q))

  -- of a table with a row for each job, labelled as before, it answers 15 exactly where some job's level is a half whose neighbour toward zero is even
  pub checks-before : (t : Table) → decode (eqb n) table ≡ got t → LabelledBefore n f.jobs t.rows
      → (number_of (check file table) ≡ 15) ↔ ((i : ℕ) × (i < n) × (nat_abs (nth_job f.jobs i).level % 20 ≡ 5))
  checks-before t decoded old = (λ e. found ((asked-15 t decoded).0 e), λ w. (asked-15 t decoded).1 (λ k. not-moved w.0 w.1 k w.2))
    where
      level : ℕ → ℤ
      level i = (nth_job f.jobs i).level

      not-moved : (i : ℕ) → i < n → Labelled n f.jobs t.rows → ¬ (nat_abs (level i) % 20 ≡ 5)
      not-moved i h k = (half-away-same (level i)).0 (sym (old.levels i h) ∙ (rounds-exactly (level i) (nth_row t.rows i).level).0 (k.levels i h))

      same : T (all (λ i. not (eqb (nat_abs (level i) % 20) 5)) (range n 0)) → Labelled n f.jobs t.rows
      same h = record {
        names = old.names;
        levels = λ i l. (rounds-exactly (level i) (nth_row t.rows i).level).1 (old.levels i l ∙ (half-away-same (level i)).1
            ((simp tests at h) i ((range-below n i).1 l)));
      }

      not-not : (b : Bool) → ¬ T (not b) → T b
      not-not true h = tt
      not-not false h = absurd (h tt)

      found : ¬ (Labelled n f.jobs t.rows) → (i : ℕ) × (i < n) × (nat_abs (level i) % 20 ≡ 5)
      found k =
          let (i, m, h) = not-all (λ i. not (eqb (nat_abs (level i) % 20) 5)) (range n 0) (λ a. k (same a)) in
          (i, (range-below n i).0 m, (T-eqb (nat_abs (level i) % 20) 5).0 (not-not (eqb (nat_abs (level i) % 20) 5) h))
