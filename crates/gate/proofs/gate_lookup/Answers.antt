-- `gate::gate_lookup` meets its contract. Assumes nothing.
use Rattle.std.proofs.Common.{sym, ap, ◌∙◌, ◌+◌, ℕ, arith}
use Rattle.table.specs.Finding.{job-small}
use Rattle.gate.specs.Numbers.{found_number}
use Rattle.gate.specs.Laws.{found_number_lem}
use Rattle.gate.proofs.gate_lookup.Goals as goal

pub overflow_cast-result : goal.overflow_cast-result
overflow_cast-result c =
    let a = c.args in
    let h = job-small a.table.now a.slot a.board c.in-Ok-Some.job (sym (rw c.in-Ok-Some.field-0-is at c.in-Ok-Some.ensures)) in
    omega arith

pub returns-in-Ok-Some : goal.returns-in-Ok-Some
unfolding found_number
returns-in-Ok-Some c = ap found_number (rw c.in-Ok-Some.field-0-is at c.in-Ok-Some.ensures) ∙ found_number_lem _

pub returns-in-Ok-None : goal.returns-in-Ok-None
unfolding found_number
returns-in-Ok-None c = ap found_number (rw c.in-Ok-None.field-0-is at c.in-Ok-None.ensures) ∙ found_number_lem _

pub returns-in-Err : goal.returns-in-Err
unfolding found_number
returns-in-Err c = ap (λ (n : ℕ). 65536 + n) (c.from.ensures ∙ c.number.ensures) ∙ ap found_number c.in-Err.ensures ∙ found_number_lem _
