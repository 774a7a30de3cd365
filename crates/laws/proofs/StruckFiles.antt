-- Needs that follow from others, struck from a job file: the bytes that are left say the same but for these needs, and windows, width, and the answers of
-- planner and check stay (document 02, request 5). Assumes nothing.
-- The definitions are in specs/StruckFiles.antt; here are the theorems that depend on what a must-fail edit breaks.
use Rattle.std.specs.Prelude.{◌≡◌, ℕ, length, leb, eqb}
use Rattle.std.proofs.Math.Path.{refl, ap, fun_ext, subst}
use Rattle.std.proofs.Common.{sym, ◌∙◌}
use mathlib.Core.List.{List}
use Rattle.std.proofs.Math.Option.{Option, none, some}
use Rattle.rules.specs.Sizes.{max_width}
use Rattle.rules.specs.Numbers.{Bytes}
use Rattle.rules.specs.Fields.{Answer, got, ask, after}
use Rattle.rules.specs.Needs.{Need, Circle, circle_free}
use Rattle.rules.specs.JobFile.{JobFile, most_boards}
use Rattle.rules.specs.JobFile.{read_file}
use Rattle.rules.specs.Windows.{width}
use Rattle.rules.specs.Preference.{best}
use Rattle.rules.specs.Boards.{runsb}
use Rattle.rules.specs.Table.{Table, starts, boards_of, decode}
use Rattle.rules.specs.Answers.{table_of, tabled, plan_table, plan, check}
use Rattle.rules.specs.Implied.{implied_needs, implied_in, struck, strike}
use Rattle.laws.specs.Tests.{bool-ext}
use Rattle.laws.specs.JobFile.{Readable, needs-in, readable}
use Rattle.laws.specs.Circles.{circle-free}
use Rattle.laws.specs.Best.{best-is}
use Rattle.laws.specs.Struck.{same-release, same-deadline, same_width}
use Rattle.laws.proofs.Struck.{same-best, same-boards}
use Rattle.laws.specs.Struck.{same-needs-kept}
use Rattle.laws.specs.StruckFiles.{with_needs, StruckFrom, strike-read, Unchanged, shorter, left-free, struck-is, listed-is}

-- ---- what stays

-- f without a circle, and what is left of it, with k fields
module _ {f : JobFile} (ok : Readable f) (free : ¬ (Circle f.needs)) (k : ℕ) where
  -- the number of jobs
  abbrev n : ℕ
  n = length f.jobs

  -- its needs that do not follow from others, and what is left
  abbrev es : List Need
  es = struck (implied_needs n f.needs) f.needs

  abbrev left : JobFile
  left = with_needs k es f

  -- as before
  same-circles : circle_free n es ≡ circle_free n f.needs
  same-circles = bool-ext _ _ (λ _. (circle-free n f.needs (needs-in f ok)).1 free) (λ _. (left-free ok free k))

  -- the best list gets the same table
  same-table : (o : Option (List ℕ)) → best n (runsb n f.needs (most_boards f)) f.limit ≡ o → tabled left o ≡ tabled f o
  unfolding tabled table_of
  same-table none e = refl
  same-table (some t) e =
      let kept = (rw e at (best-is n f.needs (most_boards f) f.limit)).0.kept in
      rw (same-boards (needs-in f ok) free (shorter ok free k) t kept) refl

  -- questions 11 to 13 have the same answers, and the same table is planned
  same-planned : plan_table left ≡ plan_table f
  unfolding plan_table most_boards
  same-planned =
      rw (same-circles, same_width (needs-in f ok) free (shorter ok free k) f.limit, same-best (needs-in f ok) free (shorter ok free k) (most_boards f) f.limit)
      (ap (λ (x : Answer Table). ask (circle_free n f.needs) 11 (ask (leb (width n f.needs f.limit) max_width) 12 x))
      (same-table (best n (runsb n f.needs (most_boards f)) f.limit) refl))

  -- so all that is said above stays
  unchanged : (bs zs : List ℕ) → read_file bs ≡ got f → read_file zs ≡ got left → Unchanged bs zs f left
  unfolding plan check after most_boards
  unchanged bs zs whole struck = record {
    releases = same-release (needs-in f ok) free (shorter ok free k);
    deadlines = same-deadline (needs-in f ok) free (shorter ok free k);
    width = same_width (needs-in f ok) free (shorter ok free k) f.limit;
    planned = λ work table. rw (whole, struck, same-planned) refl;
    checked = λ table. rw (whole, struck, same-circles) (ap (λ (r : Table → Answer Table). ask (circle_free n f.needs) 11 (after (decode (eqb n) table) r))
        (fun_ext (λ T. rw (same-needs-kept (needs-in f ok) free (shorter ok free k) (starts T) (boards_of T)) refl)));
  }

-- ---- "Striking all of them from a file without a circle"

module _ (bs : List ℕ) (bytes : Bytes bs) (f : JobFile) (read : read_file bs ≡ got f) (free : ¬ (Circle f.needs)) where
  -- the needs that follow from others
  abbrev ds : List Need
  ds = implied_needs (length f.jobs) f.needs

  -- "shall leave every window, the width, and the planner's starts and boards or its 12 or 13 unchanged"
  pub strike-unchanged : (g : JobFile) × (read_file (strike ds bs) ≡ got g) × StruckFrom ds f g × Unchanged bs (strike ds bs) f g
  strike-unchanged =
      let (g, says, w) = strike-read ds bs bytes f read in
      let same = unchanged (readable bs bytes f read) free g.fields bs (strike ds bs) read (says ∙ ap got (struck-is w)) in
      (g, says, w, subst (Unchanged bs (strike ds bs) f) (sym (struck-is w)) same)

-- the same of what is listed: the fields of these needs are taken out
module _ (bs : List ℕ) (bytes : Bytes bs) (ds : List Need) (e : implied_in bs ≡ got ds) where
  -- all that is said above stays
  pub listed-unchanged : (f : JobFile) × (g : JobFile) × (read_file bs ≡ got f) × (read_file (strike ds bs) ≡ got g) × StruckFrom ds f g
      × Unchanged bs (strike ds bs) f g
  listed-unchanged =
      let (f, read, free, same) = (listed-is bs bytes ds).0 e in
      let (g, says, w, stays) = strike-unchanged bs bytes f read free in (
        f,
        g,
        read,
        subst (λ (es : List Need). read_file (strike es bs) ≡ got g) (sym same) says,
        subst (λ (es : List Need). StruckFrom es f g) (sym same) w,
        subst (λ (es : List Need). Unchanged bs (strike es bs) f g) (sym same) stays,
      )

  -- so the planner leaves the same bytes, and the check answers the same
  pub struck-planned : (work table : List ℕ) → plan (strike ds bs) work table ≡ plan bs work table
  struck-planned = let (f, g, read, says, w, stays) = listed-unchanged in stays.planned

  pub struck-checked : (table : List ℕ) → check (strike ds bs) table ≡ check bs table
  struck-checked = let (f, g, read, says, w, stays) = listed-unchanged in stays.checked
