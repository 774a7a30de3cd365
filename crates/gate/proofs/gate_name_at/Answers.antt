-- `gate::gate_name_at` meets its contract. Assumes nothing.
use Rattle.std.proofs.Common.{◌≡◌, sym, ap, ◌∙◌, Some, arith}
use Rattle.rules.specs.Fields.{got}
use Rattle.rules.specs.Answers.{lookup}
use Rattle.table.specs.Entries.{place_of}
use Rattle.table.specs.Finding.{name_in}
use Rattle.gate.specs.Numbers.{place_number}
use Rattle.gate.specs.Laws.{place-number}
use Rattle.gate.proofs.gate_name_at.Goals as goal
use Rattle.gate.proofs.gate_name_at.Goals.{In-Ok-Some}

-- the place that was found
found : (c : In-Ok-Some) → place_of c.args.table.now (lookup c.args.table.now c.args.slot c.args.board) ≡ got (Some c.in-Ok-Some.place)
found c = sym (rw c.in-Ok-Some.field-0-is at c.in-Ok-Some.ensures)

pub overflow_cast-result : goal.overflow_cast-result
overflow_cast-result c = let h = name_in _ _ _ _ (found (goal.at.overflow_cast-result c).In-Ok-Some) in omega arith

pub overflow_mul-result : goal.overflow_mul-result
overflow_mul-result c = let h = name_in _ _ _ _ (found (goal.at.overflow_mul-result c).In-Ok-Some) in omega arith

pub overflow_sub-result : goal.overflow_sub-result
overflow_sub-result c = let h = name_in _ _ _ _ (found (goal.at.overflow_sub-result c).In-Ok-Some) in omega arith

pub overflow_cast-result-in-Ok-Some : goal.overflow_cast-result-in-Ok-Some
overflow_cast-result-in-Ok-Some c = let h = name_in _ _ _ _ (found (goal.at.overflow_cast-result-in-Ok-Some c).In-Ok-Some) in omega arith

pub overflow_add-result : goal.overflow_add-result
overflow_add-result c = let h = name_in _ _ _ _ (found (goal.at.overflow_add-result c).In-Ok-Some) in omega arith

pub returns-in-Ok-Some : goal.returns-in-Ok-Some
unfolding place_number
returns-in-Ok-Some c = ap place_number (sym (found (goal.at.returns-in-Ok-Some c).In-Ok-Some)) ∙ place-number _ _

pub returns-in-Ok-None : goal.returns-in-Ok-None
unfolding place_number
returns-in-Ok-None c = ap place_number (rw c.in-Ok-None.field-0-is at c.in-Ok-None.ensures) ∙ place-number _ _

pub returns-in-Err : goal.returns-in-Err
unfolding place_number
returns-in-Err c = ap place_number c.in-Err.ensures ∙ place-number _ _
