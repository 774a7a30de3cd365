-- Needs given twice (document 02, request 6), by computing, of files in bytes; and one that the theorem is applied to. Assumes nothing.
use Rattle.std.specs.Prelude.{◌≡◌, refl, List, [], ◌∷◌, ◌++◌, ℕ, replicate, pos}
use Rattle.std.proofs.Math.Option.{none, some}
use Rattle.std.proofs.Common.{arith}
use Rattle.rules.specs.Fields.{refused, got}
use Rattle.rules.specs.JobFile.{read_file}
use Rattle.laws.specs.FileParts.{done, more}
use Rattle.laws.specs.Comments.{comment, SameAnswers}
use Rattle.laws.specs.RepeatedNeeds.{NeedField}
use Rattle.laws.proofs.RepeatedAnswers.{repeat-same}
use Rattle.cases.specs.Case.{file_of, Holds}
use Rattle.cases.specs.Searched.{bytesb, bytes-are}
use Rattle.cases.specs.Computed.{computed, file_bytes, file_questions, whole_case}
use Rattle.cases.specs.Cases.{planned, plain}

-- two jobs with the need 1-2 given twice, limit 2
abbrev one_need_twice : List ℕ
one_need_twice = file_of 2 ((1, 2) ∷ (1, 2) ∷ []) 2

-- "A repeated need counts once": six fields, and one need
pub read-once : read_file one_need_twice ≡ got (record {
  fields = 6;
  limit = 2;
  sockets = 0;
  jobs = replicate 2 (record { level = pos 0; name = 97 ∷ [] });
  needs = (0, 1) ∷ [];
})
unfolding file_bytes file_questions
read-once = refl

-- so two slots are enough: one giver is no tie in formula (1), which compares givers, and line (3) of program P, which counts needs, has one to count; of two
-- it would ask for a delay, and for three slots. The windows hold slot 0 and slot 1; with a tie of a giver with itself both would be empty, and the width 0
pub no_tie : Holds (record {
  file = one_need_twice;
  answer = planned 2 1 (0 ∷ 1 ∷ []) (1 ∷ 1 ∷ []);
  width = some 1;
  others = [];
})
unfolding whole_case
no_tie = computed tt refl refl

-- its needs stand at the offsets 20 and 25
first-need : NeedField one_need_twice 20
unfolding file_bytes file_questions
first-need = record { before = more 0 tt (more 4 tt (more 8 tt (more 14 tt (done 20 refl)))); is_whole = tt; tag_is = tt; long = tt }

second-need : NeedField one_need_twice 25
unfolding file_bytes file_questions
second-need = record { before = more 0 tt (more 4 tt (more 8 tt (more 14 tt (more 20 tt (done 25 refl))))); is_whole = tt; tag_is = tt; long = tt }

-- so it gets the answers of the file with a comment of two bytes in place of the second
pub as-comment : SameAnswers one_need_twice (file_of 2 ((1, 2) ∷ []) 2 ++ comment (7 ∷ 7 ∷ []))
unfolding file_bytes file_questions bytesb
as-comment = repeat-same one_need_twice (bytes-are one_need_twice tt) 20 25 first-need second-need (omega arith) refl refl (7 ∷ 7 ∷ []) refl

-- 2-3 once more: two givers as without it; starts 0 1 2 satisfy P, which they would not if 2-3 counted twice (lines (3) and (4))
pub two-givers : Holds (record {
  file = file_of 3 ((1, 3) ∷ (2, 3) ∷ (2, 3) ∷ []) 3;
  answer = planned 3 2 (0 ∷ 0 ∷ 2 ∷ []) (1 ∷ 2 ∷ 1 ∷ []);
  width = none;
  others = (0 ∷ 1 ∷ 2 ∷ []) ∷ [];
})
unfolding whole_case
two-givers = computed tt refl tt

-- 2-1 is no copy of 1-2, though 1-2 comes again behind it: a circle
pub both_ways : Holds (plain (file_of 2 ((1, 2) ∷ (2, 1) ∷ (1, 2) ∷ []) 64) (refused 11))
unfolding whole_case
both_ways = computed tt refl tt

-- question 8 is asked of every need: one of job 0 is none of job 1
pub of-job-0 : Holds (plain (file_of 2 ((1, 2) ∷ (0, 2) ∷ []) 64) (refused 8))
unfolding whole_case
of-job-0 = computed tt refl tt
