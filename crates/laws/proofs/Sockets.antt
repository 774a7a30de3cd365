-- The field of the most boards: where it is left out or says eight, no cap is asked for; a readable file that says eight gets the same from planner and check
-- as without the field. Assumes nothing.
-- The definitions are in specs/Sockets.antt; here are the theorems that depend on what a must-fail edit breaks.
use Rattle.std.specs.Prelude.{◌≡◌, List, ◌++◌, ℕ, leb}
use Rattle.std.proofs.Math.Path.{refl, ap}
use Rattle.std.proofs.Math.Option.{Option, none, some}
use Rattle.std.proofs.Math.ListN.{length}
use Rattle.rules.specs.Sizes.{max_boards, max_width}
use Rattle.rules.specs.Basics.{choose}
use Rattle.rules.specs.Fields.{Answer, got, ask, after}
use Rattle.rules.specs.Needs.{circle_free}
use Rattle.rules.specs.JobFile.{JobFile, most_boards}
use Rattle.rules.specs.JobFile.{read_file}
use Rattle.rules.specs.Windows.{width}
use Rattle.rules.specs.Preference.{best}
use Rattle.rules.specs.Boards.{runsb}
use Rattle.rules.specs.Table.{Table}
use Rattle.rules.specs.Answers.{table_of, tabled, plan_table, plan, check}
use Rattle.laws.specs.FileParts.{Fields}
use Rattle.laws.specs.Sockets.{without_sockets, sockets-read, eight_boards}

-- ---- the field of eight boards left out

-- what is planned looks at limit, jobs, needs and the most boards alone
plan_table-without : (f : JobFile) → most_boards f ≡ max_boards → plan_table f ≡ plan_table (without_sockets f)
unfolding plan_table most_boards choose tabled table_of without_sockets
plan_table-without f e =
    let n = length f.jobs in
    rw e (ap (λ (r : Answer Table). ask (circle_free n f.needs) 11 (ask (leb (width n f.needs f.limit) max_width) 12 r))
    (same (best n (runsb n f.needs max_boards) f.limit)))
  where
    same : (o : Option (List ℕ)) → tabled f o ≡ tabled (without_sockets f) o
    same none = refl
    same (some t) = refl

-- a readable file with the field
module _ (xs ys : List ℕ) (fields : Fields xs) (f : JobFile) (read : read_file (xs ++ (eight_boards ++ ys)) ≡ got f) where
  -- it has as many boards as one that says nothing
  eight-most : most_boards f ≡ max_boards
  unfolding most_boards choose
  eight-most = rw (sockets-read _ xs ys fields f read).0 refl

  -- the planner answers the same number and size, and leaves the same bytes in both buffers
  pub eight-planned : (work table : List ℕ) → plan (xs ++ (eight_boards ++ ys)) work table ≡ plan (xs ++ ys) work table
  unfolding plan after
  eight-planned work table = rw (read, (sockets-read _ xs ys fields f read).1, plan_table-without f eight-most) refl

  -- the check answers the same
  pub eight-checked : (table : List ℕ) → check (xs ++ (eight_boards ++ ys)) table ≡ check (xs ++ ys) table
  unfolding check after without_sockets most_boards choose
  eight-checked table = rw (read, (sockets-read _ xs ys fields f read).1) (rw eight-most refl)
