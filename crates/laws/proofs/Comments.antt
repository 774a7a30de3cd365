-- Comments: one that stands behind the limit, at the end of a file or between its fields, changes no answer while the file is not too long. Assumes nothing.
-- The definitions are in specs/Comments.antt; here are the theorems that depend on what a must-fail edit breaks.
use Rattle.std.specs.Prelude.{◌≡◌, List, [], ◌∷◌, ◌++◌, ℕ, ◌+◌, ◌≤◌}
use Rattle.std.proofs.Math.Path.{refl}
use Rattle.std.proofs.Common.{◌∙◌, arith}
use Rattle.std.proofs.Math.ListN.{length, length-append}
use Rattle.rules.specs.Sizes.{max_file}
use Rattle.rules.specs.Numbers.{low, high}
use Rattle.rules.specs.Fields.{got, after, field}
use Rattle.rules.specs.JobFile.{JobFile, counted}
use Rattle.rules.specs.JobFile.{read_file}
use Rattle.rules.specs.Answers.{plan, check}
use Rattle.laws.specs.Comments.{comment, alike-reads, SameAnswers, same-answers, alike-last}

-- ---- "a comment also last"

-- a readable file, and a comment at its end, of any bytes or none, as long as there is room
module _ (file v : List ℕ) (f : JobFile) (read : read_file file ≡ got f) (short : length (file ++ comment v) ≤ max_file) where
  -- it is readable, and says what it says without the comment, with a field more
  pub comment-read : read_file (file ++ comment v) ≡ got (counted f)
  unfolding after
  comment-read = alike-reads (alike-last file v f read short) ∙ rw read refl

  -- and gets the same answers
  pub comment-same : SameAnswers (file ++ comment v) file
  comment-same = same-answers file (file ++ comment v) (alike-last file v f read short)

  -- the planner's number and size, and every byte of both buffers
  pub comment-planned : (work table : List ℕ) → plan (file ++ comment v) work table ≡ plan file work table
  comment-planned = comment-same.planned

  -- the check's answer for every table
  pub comment-checked : (table : List ℕ) → check (file ++ comment v) table ≡ check file table
  comment-checked = comment-same.checked

-- "A sound file with a comment of length 0 at its end: as without it"
pub comment-of-none : (file : List ℕ) (f : JobFile) → read_file file ≡ got f → length file + 3 ≤ max_file → SameAnswers (file ++ 5 ∷ 0 ∷ 0 ∷ []) file
unfolding field low high
comment-of-none file f read short = comment-same file [] f read (omega (arith, short, length-append file (comment [])))
