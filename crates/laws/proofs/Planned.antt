-- What the planner writes: demands 2 and 3 of document 01, over the rules. Assumes nothing.
-- The definitions are in specs/Planned.antt; here are the theorems that depend on what a must-fail edit breaks.
use Rattle.std.proofs.Math.Path.{◌≡◌, sym, ap, subst}
use Rattle.std.proofs.Common.{◌∙◌, arith}
use Rattle.std.specs.Prelude.{length, eqb}
use mathlib.Core.List.{List}
use Prim.Native.Nat.{ℕ, ◌≤◌}
use Rattle.rules.specs.Sizes.{max_width}
use Rattle.rules.specs.Basics.{at, largest}
use Rattle.rules.specs.Numbers.{centimetres}
use Rattle.rules.specs.Fields.{got}
use Rattle.rules.specs.Needs.{Gives, Circle}
use Rattle.rules.specs.JobFile.{JobFile, nth_job, most_boards}
use Rattle.rules.specs.Program.{SatisfiesP, slots, Fits, Kept}
use Rattle.rules.specs.Windows.{width}
use Rattle.rules.specs.Boards.{BoardRules, boards, Capped}
use Rattle.rules.specs.Table.{Row, boards_of, encode, decode}
use Rattle.rules.specs.Answers.{table_of}
use Rattle.laws.specs.Tests.{T-eqb}
use Rattle.laws.specs.Lists.{tabulate-at, map-tabulate-list}
use Rattle.laws.specs.Rounding.{rounds-exactly}
use Rattle.laws.specs.JobFile.{Readable, needs-in}
use Rattle.laws.specs.Program.{slots-fits, program-is}
use Rattle.laws.specs.Best.{Shortest}
use Rattle.laws.proofs.BoardLaws.{boards-length, boards-low, boards-rules, boards-capped}
use Rattle.laws.specs.Table.{TableOk, decode-encode}
use Rattle.laws.specs.Check.{TableFor, table-writable}
use Rattle.laws.specs.Planned.{starts-are, rows-count}

-- ---- a readable file; then one without a circle, no wider than eight

module _ (f : JobFile) (ok : Readable f) where
  module _ (free : ¬ (Circle f.needs)) (narrow : width (length f.jobs) f.needs f.limit ≤ max_width) where
    -- ---- the boards of such a table

    module _ (t : List ℕ) (short : Shortest (length f.jobs) f.needs (most_boards f) f.limit t) where
      kept : Kept (Gives f.needs) (at t) × Fits (length f.jobs) (slots t) t
      kept = (program-is (length f.jobs) f.needs (slots t) t ok.distinct (needs-in f ok)).0 short.satisfies

      pub few-boards : largest (boards (length f.jobs) f.needs t) ≤ most_boards f
      few-boards = boards-capped (length f.jobs) f.needs (needs-in f ok) t kept.1.len kept.0 (most_boards f) short.capped

      -- a board for each job
      placed : length (boards (length f.jobs) f.needs t) ≡ length f.jobs
      placed = boards-length (length f.jobs) f.needs (needs-in f ok) t kept.1.len kept.0

      -- ---- the table reads back, and passes the check

      pub boards-are : boards_of (table_of f t) ≡ boards (length f.jobs) f.needs t
      unfolding table_of
      boards-are =
          let b = boards (length f.jobs) f.needs t in
          map-tabulate-list (λ (r : Row). r.board) _ b (length f.jobs) 0 placed (λ i. ap (at b) (omega arith))

      -- what the planner writes is a table for its file
      pub table-for : TableFor f (table_of f t)
      unfolding table_of
      table-for = record {
        rows_are = rows-count f ok free narrow t short;
        labels = record {
          names = λ i h. ap (λ (r : Row). r.name) (tabulate-at _ (length f.jobs) 0 i _ h) ∙ ap (λ (j : ℕ). (nth_job f.jobs j).name) (omega arith);
          levels = λ i h. (rounds-exactly (nth_job f.jobs i).level _).1
              (ap (λ (r : Row). r.level) (tabulate-at _ (length f.jobs) 0 i _ h) ∙ ap (λ (j : ℕ). centimetres (nth_job f.jobs j).level) (omega arith));
        };
        satisfies = subst (SatisfiesP (length f.jobs) f.needs f.limit) (sym (starts-are f ok free narrow t short)) in-limit;
        capped = subst (Capped (length f.jobs) (most_boards f)) (sym (starts-are f ok free narrow t short)) short.capped;
        sizes = record {
          slots-are = ap slots (sym (starts-are f ok free narrow t short));
          fits = short.fits;
          boards-low = λ i h. rw boards-are (boards-low (length f.jobs) f.needs (needs-in f ok) t kept.1.len kept.0 i (omega (arith, rows-count f ok free narrow t short)));
          boards-are = ap largest (sym boards-are);
          boards-few = few-boards;
        };
        board-rules = subst (λ (s : List ℕ). BoardRules (length f.jobs) f.needs s (boards_of (table_of f t))) (sym (starts-are f ok free narrow t short))
            (subst (BoardRules (length f.jobs) f.needs t) (sym boards-are)
            (boards-rules (length f.jobs) f.needs (needs-in f ok) t kept.1.len kept.0));
      }
        where
          in-limit : SatisfiesP (length f.jobs) f.needs f.limit t
          in-limit =
              (program-is (length f.jobs) f.needs f.limit t ok.distinct (needs-in f ok)).1
              (kept.0, slots-fits (length f.jobs) f.limit t kept.1.len short.fits)

      -- it can be written
      pub table-ok : TableOk (table_of f t)
      table-ok = table-writable f ok (table_of f t) table-for

      pub reads-back : decode (eqb (length f.jobs)) (encode (table_of f t)) ≡ got (table_of f t)
      reads-back =
          decode-encode (eqb (length f.jobs)) (table_of f t) table-ok
          ((T-eqb (length f.jobs) (length (table_of f t).rows)).1 (sym (rows-count f ok free narrow t short)))
