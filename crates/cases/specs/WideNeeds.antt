-- Needs with numbers of two bytes, tag 6, and files of more than 64 jobs (document 02, request 8), by computing, of files in bytes. Assumes nothing.
use Rattle.std.specs.Prelude.{◌≡◌, refl, List, [], ◌∷◌, ◌++◌, ℕ, replicate, pos}
use Rattle.rules.specs.Fields.{refused, got}
use Rattle.rules.specs.JobFile.{read_file}
use Rattle.cases.specs.Case.{file_of, Holds}
use Rattle.cases.specs.Computed.{computed, file_bytes, file_questions, whole_case}
use Rattle.cases.specs.Cases.{planned, plain}

-- the need from job a to job b, both below 256, by tag 6: length 4, low byte first
abbrev wide_need : ℕ → ℕ → List ℕ
wide_need a b = 6 ∷ 4 ∷ 0 ∷ a ∷ 0 ∷ b ∷ 0 ∷ []

-- the same need by tag 6 and by tag 4 counts once: six fields, and one need
pub read-by-both : read_file (file_of 2 [] 2 ++ wide_need 1 2 ++ (4 ∷ 2 ∷ 0 ∷ 1 ∷ 2 ∷ [])) ≡ got (record {
  fields = 6;
  limit = 2;
  sockets = 0;
  jobs = replicate 2 (record { level = pos 0; name = 97 ∷ [] });
  needs = (0, 1) ∷ [];
})
unfolding file_bytes file_questions
read-by-both = refl

-- needs 1-3 and 2-3, one by each tag: as by tag 4 alone
pub planned-by-both : Holds (plain (file_of 3 ((1, 3) ∷ []) 3 ++ wide_need 2 3) (planned 3 2 (0 ∷ 0 ∷ 2 ∷ []) (1 ∷ 2 ∷ 1 ∷ [])))
unfolding whole_case
planned-by-both = computed tt refl tt

-- a high byte counts: 257 is no job of two, though 1 is
pub high_byte : Holds (plain (file_of 2 [] 2 ++ (6 ∷ 4 ∷ 0 ∷ 1 ∷ 1 ∷ 2 ∷ 0 ∷ [])) (refused 8))
unfolding whole_case
high_byte = computed tt refl tt

-- tag 6 with the length of tag 4: 6; tag 6 as the first field: 5
pub short-wide : Holds (plain (file_of 2 [] 2 ++ (6 ∷ 2 ∷ 0 ∷ 1 ∷ 2 ∷ [])) (refused 6))
unfolding whole_case
short-wide = computed tt refl tt

pub wide-first : Holds (plain (wide_need 1 2) (refused 5))
unfolding whole_case
wide-first = computed tt refl tt

-- 65 jobs are read: without needs they are too many for one slot
pub sixty-five : Holds (plain (file_of 65 [] 64) (refused 12))
unfolding whole_case
sixty-five = computed tt refl tt
