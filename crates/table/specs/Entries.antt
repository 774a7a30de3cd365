-- What check, lookup and name give, for each answer of the rules. Assumes nothing.
use Rattle.std.specs.Prelude.{◌≡◌, refl, ◌&&◌, Option, Some, None, List, [], ◌∷◌, ℕ, zero, suc, length, eqb}
use Rattle.std.specs.Option.{unwrap_or}
use Rattle.rules.specs.Sizes.{max_boards}
use Rattle.rules.specs.Basics.{choose}
use Rattle.rules.specs.Fields.{Answer, refused, got, number_of, part}
use Rattle.rules.specs.Table.{Table, apartb}
use Rattle.rules.specs.Answers.{name_span}
use Rattle.table.specs.declared.places.Place.{Place}
use Rattle.questions.specs.Questions.{sized_in}

-- the check's answer: the table passes, or the question that says no
unfoldable pub passed_of : Answer Table → Answer (Unit {0})
passed_of (refused q) = refused q
passed_of (got t) = got tt

-- its number is the rules'
pub number-passed : (x : Answer Table) → number_of (passed_of x) ≡ number_of x
unfolding passed_of number_of
number-passed (refused q) = refl
number-passed (got t) = refl

-- questions 16 and 17 of starts t and boards b, for a job file with these sockets, or eight: the number of the first that says no, or 0
unfoldable pub cell_number : ℕ → Option ℕ → ℕ → ℕ → List ℕ → List ℕ → ℕ
cell_number L sockets slots boards t b = choose (sized_in L (unwrap_or sockets max_boards) slots boards t b) (choose (apartb (length t) t b) 0 17) 16

-- the number, from i up, of the first row with slot s and board b in its start and board; 0 where there is none
unfoldable pub job_in : ℕ → List ℕ → List ℕ → ℕ → ℕ → ℕ
job_in i [] bs s b = 0
job_in i (t ∷ ts) [] s b = 0
job_in i (t ∷ ts) (c ∷ bs) s b = choose (eqb t s && eqb c b) i (job_in (suc i) ts bs s b)

-- the number, from 1, of a row that was found; 0 where none was
abbrev pub row_number : Option ℕ → ℕ
row_number None = 0
row_number (Some i) = suc i

-- the lookup's answer: idle is the rules' 0, and a job its number
unfoldable pub found_of : Answer ℕ → Answer (Option ℕ)
found_of (refused q) = refused q
found_of (got zero) = got None
found_of (got (suc i)) = got (Some (suc i))

-- the same with where the job's name stands
unfoldable pub place_of : List ℕ → Answer ℕ → Answer (Option Place)
place_of bs (refused q) = refused q
place_of bs (got zero) = got None
place_of bs (got (suc i)) = let w = name_span bs (got (suc i)) in got (Some (record { job = suc i; start = w.0; end = w.1 }))

-- what a place says of the board: its job
unfoldable pub job_of : Answer (Option Place) → Answer (Option ℕ)
job_of (refused q) = refused q
job_of (got None) = got None
job_of (got (Some p)) = got (Some p.job)

-- the part of the table that a place says
unfoldable pub part_of : List ℕ → Answer (Option Place) → List ℕ
part_of bs (refused q) = []
part_of bs (got None) = []
part_of bs (got (Some p)) = part bs p.start p.end
