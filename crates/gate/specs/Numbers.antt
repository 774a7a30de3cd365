-- The numbers that the forms for C give. Assumes nothing.
use Rattle.std.specs.Prelude.{Option, Some, None, Result, Ok, Err, List, ℕ, ◌+◌, ◌-◌, ◌*◌, eqb}
use Rattle.std.specs.Option.{unwrap_or}
use Rattle.std.specs.Result.{result_unwrap_or}
use Rattle.rules.specs.Basics.{choose}
use Rattle.rules.specs.Fields.{Answer, refused, got}
use Rattle.rules.specs.Answers.{Outcome, name_span}
use Rattle.refusals.specs.declared.Refusal.{Refusal}
use Rattle.refusals.specs.Refusals.{number}
use Rattle.table.specs.declared.places.Place.{Place}

-- the size of the table that each answer of the planner leaves: 0 where there is none
abbrev pub planned_size : Result ℕ Refusal → ℕ
planned_size p = result_unwrap_or p 0

-- the number of the question that says no, where one does, or 0
abbrev pub said_number : Option Refusal → ℕ
said_number None = 0
said_number (Some r) = number r

-- each answer of the planner as one number
unfoldable pub answer_number : Result ℕ Refusal → ℕ
answer_number (Ok n) = n
answer_number (Err r) = 65536 + number r

-- the number of each answer of the lookup
unfoldable pub found_number : Answer (Option ℕ) → ℕ
found_number (refused q) = 65536 + q
found_number (got j) = unwrap_or j 0

-- the number of each place of a name: offset times 65536, plus length
unfoldable pub place_number : Answer (Option Place) → ℕ
place_number (refused q) = 0
place_number (got None) = 0
place_number (got (Some p)) = p.start * 65536 + (p.end - p.start)

-- ---- the same of the rules' answers

-- the planner's answer: the length of the table, or 65536 and the number of the refusal
unfoldable pub plan_number : Outcome → ℕ
plan_number o = choose (eqb o.number 0) o.size (65536 + o.number)

-- the lookup's answer: 0 idle, a job number, or 65536 and the number of the refusal
unfoldable pub lookup_number : Answer ℕ → ℕ
lookup_number (refused q) = 65536 + q
lookup_number (got j) = j

-- where the name stands that the lookup's answer leads to, and its length; 0 where it is empty
unfoldable pub name_number : List ℕ → Answer ℕ → ℕ
name_number bs x = let w = name_span bs x in w.0 * 65536 + (w.1 - w.0)
