-- The lookup: slot and board of a job give its number and its name, all else is idle; and so of every table that passes the check. Assumes nothing.
use Rattle.std.specs.Prelude.{◌≡◌, ◌⊎◌, ◌↔◌, Bool, ◌&&◌, length, take, drop, T, leb}
use Rattle.std.proofs.Math.Path.{refl}
use Rattle.std.proofs.Common.{sym, ap, ◌∙◌, drop-drop}
use Rattle.std.proofs.Math.Logic.{⊎_elim}
use Rattle.std.proofs.Math.Bool.{true, false}
use mathlib.Core.List.{List, [], ◌∷◌, map}
use Prim.Native.Nat.{ℕ, zero, suc, ◌+◌, ◌-◌, ◌≤◌, ◌<◌}
use native.Mathlib.Omega.{arith}
use Rattle.std.proofs.Math.Dec.{eqb}
use Rattle.rules.specs.Sizes.{max_jobs, max_limit, max_boards}
use Rattle.rules.specs.Basics.{choose, at}
use Rattle.rules.specs.Fields.{Answer, refused, got, after, part, field_end, value}
use Rattle.rules.specs.JobFile.{JobFile, nth_job, most_boards, read_file}
use Rattle.rules.specs.Program.{slots}
use Rattle.rules.specs.Boards.{boards}
use Rattle.rules.specs.Table.{Row, Table, nth_row, starts, boards_of, row_of, decode, sized, apartb, row_start}
use Rattle.rules.specs.Answers.{Outcome, job_at, lookup_table, lookup, name_span, name_at}
use Rattle.laws.specs.Tests.{tests, choose_yes, choose_no}
use Rattle.laws.specs.Lists.{drop-take}
use Rattle.laws.specs.Counting.{at_most}
use Rattle.laws.specs.Fields.{got_same, ask-got, after-got, ask-yes}
use Rattle.laws.specs.Decoded.{row_number, decoded-row}
use Rattle.laws.specs.Check.{Sized, sized-is, apart-is}
use Rattle.laws.specs.Best.{Shortest}

-- ---- the first row with a slot and a board

-- row i has the start s and the board b
pub record RunsAt (rows : List Row) (s b i : ℕ) : Type 0 where
  pub row_in : i < length rows
  pub slot_is : at (map (λ r. r.start) rows) i ≡ s
  pub board-is : at (map (λ r. r.board) rows) i ≡ b

module _ (s b : ℕ) where
  -- the next row, and those behind it
  behind : (r : Row) (rows : List Row) (i : ℕ) → RunsAt rows s b i → RunsAt (r ∷ rows) s b (suc i)
  behind r rows i w = record { row_in = omega (arith, w.row_in); slot_is = w.slot_is; board-is = w.board-is }

  here : (r : Row) (rows : List Row) → T (eqb r.start s && eqb r.board b) → RunsAt (r ∷ rows) s b 0
  here r rows t = let w = simp tests at t in record { row_in = omega arith; slot_is = w.0; board-is = w.1 }

  -- the number, from k up, of the only row that has them
  job-first : (k : ℕ) (rows : List Row) (i : ℕ) → RunsAt rows s b i → ((j : ℕ) → RunsAt rows s b j → j ≡ i) → job_at k rows s b ≡ k + i
  unfolding job_at
  job-first k [] i w only = absurd (omega (arith, w.row_in))
  job-first k (r ∷ rows) zero w only =
      choose_yes (eqb r.start s && eqb r.board b) k _ (simp tests (w.slot_is, w.board-is)) ∙ let e : k ≡ k + 0 = omega arith in e
  job-first k (r ∷ rows) (suc i) w only =
      choose_no (eqb r.start s && eqb r.board b) k _ (λ t. omega (arith, only 0 (here r rows t)))
      ∙ job-first (suc k) rows i record { row_in = omega (arith, w.row_in); slot_is = w.slot_is; board-is = w.board-is }
      (λ j v. omega (arith, only (suc j) (behind r rows j v)))
      ∙ let e : suc k + i ≡ k + suc i = omega arith in e

  -- 0 where none has them
  job-none : (k : ℕ) (rows : List Row) → ((i : ℕ) → RunsAt rows s b i → ⊥) → job_at k rows s b ≡ 0
  unfolding job_at
  job-none k [] none = refl
  job-none k (r ∷ rows) none =
      choose_no (eqb r.start s && eqb r.board b) k _ (λ t. none 0 (here r rows t)) ∙ job-none (suc k) rows (λ i w. none (suc i) (behind r rows i w))

  -- a number is that of a row that has them
  pub job-row : (k : ℕ) (rows : List Row) (j : ℕ) → job_at k rows s b ≡ suc j → (i : ℕ) × (suc j ≡ k + i) × RunsAt rows s b i
  unfolding job_at choose
  job-row k [] j e = absurd (omega arith)
  job-row k (r ∷ rows) j e = go (eqb r.start s && eqb r.board b) (here r rows) e (job-row (suc k) rows j)
    where
      go : (c : Bool) → (T c → RunsAt (r ∷ rows) s b 0) → choose c k (job_at (suc k) rows s b) ≡ suc j
          → (job_at (suc k) rows s b ≡ suc j → (i : ℕ) × (suc j ≡ suc k + i) × RunsAt rows s b i) → (i : ℕ) × (suc j ≡ k + i) × RunsAt (r ∷ rows) s b i
      go true at_front q rest = (0, omega arith, at_front tt)
      go false at_front q rest = let w = rest q in (suc w.0, omega (arith, w.1), behind r rows w.0 w.2)

-- ---- the table that the lookup uses

-- "it asks 14 (for 1 to" 400 "jobs), 16 (with 64 for the limit) and 17"
pub record Usable (table : List ℕ) (t : Table) : Type 0 where
  pub decodes : decode (λ n. leb 1 n && leb n max_jobs) table ≡ got t
  pub sizes : Sized max_limit max_boards t
  pub apart : (i j : ℕ) → i < length t.rows → j < length t.rows → at (starts t) i ≡ at (starts t) j → at (boards_of t) i ≡ at (boards_of t) j → i ≡ j

-- the lookup uses a table exactly where these are yes, else it refuses
pub usable-is : (table : List ℕ) (t : Table) → (lookup_table table ≡ got t) ↔ Usable table t
unfolding lookup_table after
usable-is table t = (
  λ e. let w = after-got (decode (λ n. leb 1 n && leb n max_jobs) table) _ t e in
      let a = ask-got (sized max_limit max_boards w.0) 16 _ t w.2 in
      let c = ask-got (apartb (length w.0.rows) (starts w.0) (boards_of w.0)) 17 (got w.0) t a.1 in
      let q = got_same w.0 t c.1 in
      record {
        decodes = w.1 ∙ ap got q;
        sizes = (sized-is max_limit max_boards t).0 (rw q at a.0);
        apart = (apart-is (length t.rows) (starts t) (boards_of t)).0 (rw q at c.0);
      },
  λ u. rw u.decodes (ask-yes (sized max_limit max_boards t) 16 _ ((sized-is max_limit max_boards t).1 u.sizes)
      ∙ ask-yes (apartb (length t.rows) (starts t) (boards_of t)) 17 _ ((apart-is (length t.rows) (starts t) (boards_of t)).1 u.apart)),
)

-- a row's name stands behind the seven bytes before it
name-part : (table : List ℕ) (i : ℕ) → (row_number table i).name ≡ part table (row_start table i + 7) (row_start table (suc i))
unfolding row_number row_of row_start value part
name-part table i =
    let a = row_start table i in
    drop-take 4 (field_end table a - (a + 3)) (drop (a + 3) table)
    ∙ rw (
      let e : field_end table a - (a + 3) - 4 ≡ field_end table a - (a + 7) = omega arith in e,
      drop-drop 4 (a + 3) table,
      let e : a + 3 + 4 ≡ a + 7 = omega arith in e,
    ) refl

module _ (table : List ℕ) (t : Table) (used : lookup_table table ≡ got t) where
  usable : Usable table t
  usable = (usable-is table t).0 used

  answer : (s b : ℕ) → lookup table s b ≡ got (job_at 1 t.rows s b)
  unfolding lookup after
  answer s b = rw used refl

  -- slot and board of a job give its number
  pub lookup-job : (i : ℕ) → i < length t.rows → lookup table (at (starts t) i) (at (boards_of t) i) ≡ got (suc i)
  lookup-job i h = answer s b ∙ ap got (omega (arith, job-first s b 1 t.rows i its-row only))
    where
      s : ℕ
      s = at (starts t) i

      b : ℕ
      b = at (boards_of t) i

      its-row : RunsAt t.rows s b i
      its-row = record { row_in = h; slot_is = refl; board-is = refl }

      only : (j : ℕ) → RunsAt t.rows s b j → j ≡ i
      only j w = usable.apart j i w.row_in h w.slot_is w.board-is

  -- a job number is answered only for that job's slot and board
  pub lookup-only : (s b i : ℕ) → lookup table s b ≡ got (suc i) → RunsAt t.rows s b i
  lookup-only s b i e =
      let w = job-row s b 1 t.rows i (got_same (job_at 1 t.rows s b) (suc i) (sym (answer s b) ∙ e)) in
      let q : w.0 ≡ i = omega (arith, w.1) in
      rw q at w.2

  -- where no job has both it is idle
  pub lookup-idle : (s b : ℕ) → ((i : ℕ) → RunsAt t.rows s b i → ⊥) → lookup table s b ≡ got 0
  lookup-idle s b none = answer s b ∙ ap got (job-none s b 1 t.rows none)

  -- "a slot or board beyond the table is idle, board 0 too"
  pub idle-beyond : (s b : ℕ) → (t.slots ≤ s) ⊎ ((t.boards < b) ⊎ (b ≡ 0)) → lookup table s b ≡ got 0
  unfolding slots
  idle-beyond s b = ⊎_elim
      (λ h. lookup-idle s b (λ i w. omega (arith, h, w.slot_is, usable.sizes.slots-are, at_most (starts t) i)))
      (⊎_elim
      (λ h. lookup-idle s b (λ i w. omega (arith, h, w.board-is, usable.sizes.boards-are, at_most (boards_of t) i)))
      (λ h. lookup-idle s b (λ i w. omega (arith, h, w.board-is, usable.sizes.boards-low i w.row_in))))

  -- "the part of the table that holds it": the name is the one in the row of the job that the lookup answers
  pub name-of-row : (s b i : ℕ) → lookup table s b ≡ got (suc i) → name_at table s b ≡ (nth_row t.rows i).name
  unfolding name_at name_span
  name-of-row s b i e =
      rw e (sym (ap (λ (r : Row). r.name) (decoded-row table _ t usable.decodes i (lookup-only s b i e).row_in) ∙ name-part table i))

-- "the part is empty if the lookup is idle or refused"
pub no_name : (table : List ℕ) (s b : ℕ) → ((i : ℕ) → lookup table s b ≡ got (suc i) → ⊥) → name_at table s b ≡ []
unfolding name_at name_span part
no_name table s b none = go (lookup table s b) none
  where
    go : (x : Answer ℕ) → ((i : ℕ) → x ≡ got (suc i) → ⊥) → let w = name_span table x in part table w.0 w.1 ≡ []
    go (refused q) h = refl
    go (got zero) h = refl
    go (got (suc i)) h = absurd (h i refl)

-- ---- a table that passes the check

-- "The lookup tells a board what to do in a slot": t is a table for the file f, and these bytes of it are looked up
pub record LooksUp (f : JobFile) (table : List ℕ) (t : Table) : Type 0 where
  -- the lookup does not refuse it
  pub used : lookup_table table ≡ got t
  -- slot and board of each job of the file give its number, and its name in the file
  pub job : (i : ℕ) → i < length f.jobs → lookup table (at (starts t) i) (at (boards_of t) i) ≡ got (suc i)
  pub name : (i : ℕ) → i < length f.jobs → name_at table (at (starts t) i) (at (boards_of t) i) ≡ (nth_job f.jobs i).name
  -- and every other slot and board is idle
  pub idle : (s b : ℕ) → ((i : ℕ) → i < length f.jobs → at (starts t) i ≡ s → at (boards_of t) i ≡ b → ⊥) → lookup table s b ≡ got 0

-- ---- a table that the planner writes

-- the planner has planned the start list `list` for the file, and what it leaves is looked up by it
pub record PlannedLookup (file : List ℕ) (o : Outcome) : Type 0 where
  pub file-read : JobFile
  pub read : read_file file ≡ got file-read
  pub list : List ℕ
  pub planned : Shortest (length file-read.jobs) file-read.needs (most_boards file-read) file-read.limit list
  -- the planned slot and board of each job give its number, and its name in the file
  pub job : (i : ℕ) → i < length file-read.jobs
      → lookup (take o.size o.table) (at list i) (at (boards (length file-read.jobs) file-read.needs list) i) ≡ got (suc i)
  pub name : (i : ℕ) → i < length file-read.jobs
      → name_at (take o.size o.table) (at list i) (at (boards (length file-read.jobs) file-read.needs list) i) ≡ (nth_job file-read.jobs i).name
  -- and every other slot and board is idle
  pub idle : (s b : ℕ) → ((i : ℕ) → i < length file-read.jobs → at list i ≡ s → at (boards (length file-read.jobs) file-read.needs list) i ≡ b → ⊥)
      → lookup (take o.size o.table) s b ≡ got 0
