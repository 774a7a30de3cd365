-- The check passes a table exactly when it is a table for the job file (demand 2), and the numbers of its refusals. Assumes nothing.
-- The definitions are in specs/Check.antt; here are the theorems that depend on what a must-fail edit breaks.
use Rattle.std.specs.Prelude.{◌≡◌, ◌↔◌}
use mathlib.Core.List.{List}
use Prim.Native.Nat.{ℕ}
use Rattle.std.proofs.Math.ListN.{length}
use Rattle.rules.specs.Basics.{at}
use Rattle.rules.specs.Needs.{Gives}
use Rattle.rules.specs.JobFile.{JobFile, most_boards}
use Rattle.rules.specs.Program.{SatisfiesP, Fits, Kept}
use Rattle.rules.specs.Boards.{Capped, Runs}
use Rattle.laws.specs.JobFile.{Readable, needs-in}
use Rattle.laws.specs.Program.{program-is}
use Rattle.laws.specs.BoardLaws.{Boarded}
use Rattle.laws.proofs.BoardLaws.{boarded-is}

-- ---- demand 2

-- the starts that 16 to 18 let pass, with some boards: those that satisfy P within the limit with no more jobs in any slot than the file has boards
pub lists-pass : (f : JobFile) → Readable f → (t : List ℕ)
    → ((b : List ℕ) × Boarded (length f.jobs) f.needs (most_boards f) t b × Fits (length f.jobs) f.limit t)
    ↔ (SatisfiesP (length f.jobs) f.needs f.limit t × Capped (length f.jobs) (most_boards f) t)
lists-pass f ok t = (
  λ w. let r = (boarded w.2.len).0 (w.0, w.1) in (program.1 (r.kept, w.2), r.capped),
  λ s. let p = program.0 s.0 in let w = (boarded p.1.len).1 record { kept = p.0; capped = s.1 } in (w.0, w.1, p.1),
)
  where
    program : SatisfiesP (length f.jobs) f.needs f.limit t ↔ (Kept (Gives f.needs) (at t) × Fits (length f.jobs) f.limit t)
    program = program-is (length f.jobs) f.needs f.limit t ok.distinct (needs-in f ok)

    boarded : length t ≡ length f.jobs → ((b : List ℕ) × Boarded (length f.jobs) f.needs (most_boards f) t b)
        ↔ Runs (length f.jobs) f.needs (most_boards f) t
    boarded len = boarded-is (length f.jobs) f.needs (needs-in f ok) (most_boards f) t len
