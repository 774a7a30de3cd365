-- Demands 1 to 3, which document 01 refers to, said of the planner's whole answer: number, size and both buffers; and what the check answers for the job file.
-- Assumes nothing.
-- The definitions are in specs/Demands.antt; here are the theorems that depend on what a must-fail edit breaks.
use Rattle.std.specs.Prelude.{◌≡◌, ◌≢◌, ◌⊎◌, ◌↔◌, ◌&&◌, ℕ, ◌≤◌, ◌<◌, drop}
use Rattle.std.proofs.Math.Path.{refl, ap}
use Rattle.std.proofs.Common.{sym, ◌∙◌}
use Rattle.std.proofs.Math.Logic.{inl, inr, ⊎_elim}
use mathlib.Core.List.{List}
use Rattle.std.proofs.Math.Option.{Option, none, some}
use native.Mathlib.Omega.{arith}
use Rattle.std.proofs.Math.ListN.{length}
use Rattle.std.proofs.Math.Seq.{take_at, drop-append_seam}
use Rattle.std.proofs.Math.Dec.{leb}
use Rattle.rules.specs.Sizes.{max_width, work_size, table_size}
use Rattle.rules.specs.Basics.{at}
use Rattle.rules.specs.Numbers.{Bytes}
use Rattle.rules.specs.Fields.{Answer, refused, got, after, field}
use Rattle.rules.specs.Needs.{Gives, Circle}
use Rattle.rules.specs.JobFile.{JobFile, most_boards, read_file}
use Rattle.rules.specs.Program.{Kept, Fits, slots}
use Rattle.rules.specs.Windows.{width}
use Rattle.rules.specs.Preference.{best}
use Rattle.rules.specs.Boards.{runsb}
use Rattle.rules.specs.Table.{Table, encode}
use Rattle.rules.specs.Answers.{Outcome, table_of, tabled, plan_table, written, plan, check}
use Rattle.laws.specs.Tests.{tests, by-choice}
use Rattle.laws.specs.Fields.{after-got}
use Rattle.laws.specs.Program.{program-is, slots-fits}
use Rattle.laws.specs.JobFile.{Readable, needs-in, readable}
use Rattle.laws.specs.Refusals.{Refusal, PlanNumber, plan-least}
use Rattle.laws.proofs.Refusals.{plan-number}
use Rattle.laws.specs.Best.{Satisfies, Shortest, best-found, best_none}
use Rattle.laws.proofs.BoardLaws.{boards-given, boards-rules, boards-least, boards-capped}
use Rattle.laws.specs.Planned.{numbered-12, asked-13, written-where}
use Rattle.laws.specs.Planned.{rows-count, starts-are}
use Rattle.laws.proofs.Planned.{table-ok, boards-are, table-for, reads-back}
use Rattle.laws.specs.Check.{check-exactly}
use Rattle.laws.specs.Table.{encode-length}
use Rattle.laws.specs.Demands.{asked, plan-full, RefusalLeaves, TableLeaves, number-of, TableOf, answers-13, from-file, ReadsBack}

-- ---- demand 1

module _ (file work table : List ℕ) where
  -- what holds of each answer: that of refusal 1, of the others, and of each table
  each-answer : (P : Outcome → Type 0) → P (record { number = 1; size = 0; table = table; work = work })
      → ((q : ℕ) → PlanNumber q → P (written (refused q) work table))
      → ((T : Table) → asked file ≡ got T → P (written (got T) work table)) → P (plan file work table)
  unfolding plan Refusal
  each-answer P one other tabled =
      by-choice P (leb work_size (length work) && leb table_size (length table)) (λ _. of (asked file) refl (plan-number file)) (λ _. one)
    where
      of : (a : Answer Table) → asked file ≡ a → Refusal PlanNumber a → P (written a work table)
      of (refused q) e m = other q m
      of (got T) e m = tabled T e

  -- where the number is 0 the answer is a table
  each-table : (P : Outcome → Type 0) → ((T : Table) → asked file ≡ got T → P (written (got T) work table))
      → (plan file work table).number ≡ 0 → P (plan file work table)
  unfolding written
  each-table P tabled =
      each-answer (λ (o : Outcome). o.number ≡ 0 → P o) (λ e. absurd (omega (arith, e))) (λ q m e. absurd (omega (arith, plan-least q m, e)))
      (λ T e _. tabled T e)

  -- 1 exactly where a buffer is too short (question 1)
  pub answers-1 : ((plan file work table).number ≡ 1) ↔ (¬ ((work_size ≤ length work) × (table_size ≤ length table)))
  unfolding plan written Refusal
  answers-1 =
      by-choice (λ (o : Outcome). (o.number ≡ 1) ↔ (¬ ((work_size ≤ length work) × (table_size ≤ length table))))
      (leb work_size (length work) && leb table_size (length table))
      (λ t. (λ e. absurd (of (asked file) (plan-number file) e), λ n. absurd (n (simp tests at t)))) (λ n. (λ _ full. n (simp tests full), λ _. refl))
    where
      of : (a : Answer Table) → Refusal PlanNumber a → (written a work table).number ≡ 1 → ⊥
      of (refused q) m e = omega (arith, plan-least q m, e)
      of (got T) m e = omega (arith, e)

  -- "a refusal changes no byte of the table buffer": every refusal leaves this, whatever the file and the buffers
  pub refusal-leaves : ((plan file work table).number ≡ 0 → ⊥) → RefusalLeaves work table (plan file work table)
  unfolding written
  refusal-leaves =
      each-answer (λ (o : Outcome). (o.number ≡ 0 → ⊥) → RefusalLeaves work table o)
      (λ _. record { no_size = refl; table-untouched = refl; work-untouched = λ _. refl; work-cleared = λ n. absurd (n refl) })
      (λ q m _. record { no_size = refl; table-untouched = refl; work-untouched = λ e. absurd (omega (arith, plan-least q m, e)); work-cleared = λ _. refl })
      (λ T _ n. absurd (n refl))

  -- every table leaves this
  pub table-leaves : (plan file work table).number ≡ 0 → TableLeaves work table (plan file work table)
  unfolding written
  table-leaves =
      each-table (TableLeaves work table)
      (λ T _. record { behind-untouched = drop-append_seam (encode T) (drop (length (encode T)) table); work-cleared = refl })

  -- "The planner asks 1 to 13", but 9, and 21: an answer is a table, or the refusal of one of them
  pub plan-refuses : (((plan file work table).number ≤ 13) × ((plan file work table).number ≢ 9)) ⊎ ((plan file work table).number ≡ 21)
  unfolding written
  plan-refuses =
      each-answer (λ (o : Outcome). ((o.number ≤ 13) × (o.number ≢ 9)) ⊎ (o.number ≡ 21)) (inl (omega arith, λ e. omega (arith, e)))
      (λ q m. ⊎_elim (λ w. inl (w.0.1, w.1)) inr m) (λ T e. inl (omega arith, λ z. omega (arith, z)))

  -- with full buffers it is none of 1
  pub plan-numbers : work_size ≤ length work → table_size ≤ length table → ((plan file work table).number ≡ 0) ⊎ PlanNumber (plan file work table).number
  plan-numbers work-full table-full =
      rw (plan-full file work table work-full table-full) (of (asked file) (plan-number file))
    where
      of : (a : Answer Table) → Refusal PlanNumber a → ((written a work table).number ≡ 0) ⊎ PlanNumber (written a work table).number
      of (refused q) h = unfold written Refusal in inr h
      of (got T) h = unfold written in inl refl

  -- and that the other questions lead to a table
  pub answers-table : (plan file work table).number ≡ 0 → (T : Table) × (asked file ≡ got T)
  answers-table = each-table (λ _. (T : Table) × (asked file ≡ got T)) (λ T e. (T, e))

  -- a table has bytes, so no answer is both without a refusal and without a table
  pub table-has-bytes : (plan file work table).number ≡ 0 → 0 < (plan file work table).size
  unfolding written encode field
  table-has-bytes = each-table (λ (o : Outcome). 0 < o.size) (λ T _. omega arith)

-- ---- full buffers

module _ (file work table : List ℕ) (work-full : work_size ≤ length work) (table-full : table_size ≤ length table) where
  -- a readable file
  module _ (bytes : Bytes file) (f : JobFile) (read : read_file file ≡ got f) where
    -- the number of its jobs
    abbrev n : ℕ
    n = length f.jobs

    ok : Readable f
    ok = readable file bytes f read

    plan-is : plan file work table ≡ written (plan_table f) work table
    unfolding after
    plan-is = plan-full file work table work-full table-full ∙ ap (λ (x : Answer JobFile). written (after x plan_table) work table) read

    -- 12 exactly where they have none and its width is above eight (question 12)
    pub answers-12 : ((plan file work table).number ≡ 12) ↔ ((¬ (Circle f.needs)) × (max_width < width n f.needs f.limit))
    answers-12 =
        let w = numbered-12 f ok in
        let number = number-of file work table work-full table-full bytes f read in
        (λ e. w.0 (sym number ∙ e), λ h. number ∙ w.1 h)

    -- ---- demand 3: without a circle, no wider than eight

    module _ (free : ¬ (Circle f.needs)) (narrow : width n f.needs f.limit ≤ max_width) where
      kept_of : (t : List ℕ) → Shortest n f.needs (most_boards f) f.limit t → Kept (Gives f.needs) (at t) × Fits n (slots t) t
      kept_of t s = (program-is n f.needs (slots t) t ok.distinct (needs-in f ok)).0 s.satisfies

      table-of : (t : List ℕ) → Shortest n f.needs (most_boards f) f.limit t → plan_table f ≡ got (table_of f t)
          → TableOf file work table work-full table-full bytes f read free narrow t
      unfolding written
      table-of t s e = record {
        shortest = s;
        given = boards-given n f.needs (needs-in f ok) t kept.1.len kept.0;
        keeps-rules = boards-rules n f.needs (needs-in f ok) t kept.1.len kept.0;
        fewest = boards-least n f.needs (needs-in f ok) t kept.1.len kept.0;
        no_more = boards-capped n f.needs (needs-in f ok) t kept.1.len kept.0 (most_boards f) s.capped;
        answer = plan-is ∙ ap (λ (x : Answer Table). written x work table) e;
      }
        where
          kept : Kept (Gives f.needs) (at t) × Fits n (slots t) t
          kept = kept_of t s

      -- where some start list that satisfies P and the cap fits the limit, a table is written
      pub writes-table : (u : List ℕ) → Satisfies n f.needs (most_boards f) f.limit u
          → (t : List ℕ) × TableOf file work table work-full table-full bytes f read free narrow t
      writes-table u s = let w = written-where f ok free narrow u s in (w.0, table-of w.0 w.1 w.2)

      -- so the answer is the table of a shortest and preferred list, or 13 where none satisfies P and the cap
      pub table-or-13 : ((t : List ℕ) × TableOf file work table work-full table-full bytes f read free narrow t)
          ⊎ (((plan file work table).number ≡ 13) × ((t : List ℕ) → Satisfies n f.needs (most_boards f) f.limit t → ⊥))
      unfolding tabled
      table-or-13 = go (best n (runsb n f.needs (most_boards f)) f.limit) refl
        where
          go : (o : Option (List ℕ)) → best n (runsb n f.needs (most_boards f)) f.limit ≡ o
              → ((t : List ℕ) × TableOf file work table work-full table-full bytes f read free narrow t)
              ⊎ (((plan file work table).number ≡ 13) × ((t : List ℕ) → Satisfies n f.needs (most_boards f) f.limit t → ⊥))
          go none e =
              let h = (best_none n f.needs (most_boards f) f.limit ok.distinct (needs-in f ok) ok.limit-in.0).0 e in
              inr ((answers-13 file work table work-full table-full bytes f read free narrow).1 h, h)
          go (some t) e =
              let s = best-found n f.needs (most_boards f) f.limit ok.distinct (needs-in f ok) ok.limit-in.0 t e in
              inl (t, table-of t s (asked-13 f ok free narrow ∙ ap (tabled f) e))

      -- "the planner writes a table exactly when some start list that satisfies P fits the limit", with no more jobs in any slot than the file has boards
      pub writes-exactly : ((plan file work table).number ≡ 0) ↔ ((u : List ℕ) × Satisfies n f.needs (most_boards f) f.limit u)
      writes-exactly = (go table-or-13, λ w. ap (λ (o : Outcome). o.number) (writes-table w.0 w.1).1.answer)
        where
          go : ((t : List ℕ) × TableOf file work table work-full table-full bytes f read free narrow t)
              ⊎ (((plan file work table).number ≡ 13) × ((t : List ℕ) → Satisfies n f.needs (most_boards f) f.limit t → ⊥))
              → (plan file work table).number ≡ 0 → (u : List ℕ) × Satisfies n f.needs (most_boards f) f.limit u
          go (inl (t, w)) z =
              let s = w.shortest in
              let k = kept_of t s in
              (t, ((program-is n f.needs f.limit t ok.distinct (needs-in f ok)).1 (k.0, slots-fits n f.limit t k.1.len s.fits), s.capped))
          go (inr (q, h)) z = absurd (omega (arith, q, z))

-- ---- every table written, whatever the file

-- the bytes of every table pass the check for its file, which reads them as that table
pub table-passes : (file : List ℕ) → Bytes file → (T : Table) → asked file ≡ got T → check file (encode T) ≡ got T
table-passes file bytes T e =
    let r = after-got (read_file file) plan_table T e in
    let f = r.0 in
    let ok = readable file bytes f r.1 in
    let w = from-file f ok T r.2 in
    rw w.table_is ((check-exactly file bytes f r.1 w.no-circle (encode (table_of f w.list)) (table_of f w.list)).1
    (reads-back f ok w.no-circle w.narrow w.list w.short, table-for f ok w.no-circle w.narrow w.list w.short))

module _ (file work table : List ℕ) (bytes : Bytes file) where
  -- the longest table is 7,606 bytes (document 02, request 8)
  pub plan-size : (plan file work table).size ≤ table_size
  unfolding written
  plan-size = each-answer file work table (λ (o : Outcome). o.size ≤ table_size) (omega arith) (λ q m. omega arith) (λ T e.
      let r = after-got (read_file file) plan_table T e in
      let ok = readable file bytes r.0 r.1 in
      let w = from-file r.0 ok T r.2 in
      rw w.table_is (encode-length (table_of r.0 w.list) (table-ok r.0 ok w.no-circle w.narrow w.list w.short)
      (omega (arith, rows-count r.0 ok w.no-circle w.narrow w.list w.short, ok.jobs-in))))

  pub reads-back-passes : (plan file work table).number ≡ 0 → ReadsBack file work table bytes (plan file work table)
  unfolding written
  reads-back-passes = each-table file work table (ReadsBack file work table bytes) (λ T e.
      let r = after-got (read_file file) plan_table T e in
      let f = r.0 in
      let ok = readable file bytes f r.1 in
      let w = from-file f ok T r.2 in
      record {
        file-read = f;
        read = r.1;
        list = w.list;
        planned = w.short;
        bytes-are = take_at (encode T) (drop (length (encode T)) table) (length (encode T)) refl ∙ ap encode w.table_is;
        passes = rw w.table_is at (table-passes file bytes T e);
        starts-back = starts-are f ok w.no-circle w.narrow w.list w.short;
        boards-back = boards-are f ok w.no-circle w.narrow w.list w.short;
        labels-back = (table-for f ok w.no-circle w.narrow w.list w.short).labels;
      })
