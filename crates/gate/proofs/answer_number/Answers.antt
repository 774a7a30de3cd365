-- `gate::answer_number` meets its contract. Assumes nothing.
use Rattle.std.proofs.Common.{sym, ap, ◌∙◌, ◌+◌, ℕ, arith}
use Rattle.gate.specs.Numbers.{planned_size, answer_number}
use Rattle.gate.proofs.answer_number.Goals as goal

pub overflow_cast-result : goal.overflow_cast-result
overflow_cast-result c = omega (arith, sym (ap planned_size c.in-Ok.is), c.requires)

pub returns-in-Ok : goal.returns-in-Ok
unfolding answer_number
returns-in-Ok c = sym (ap answer_number c.in-Ok.is)

pub returns-in-Err : goal.returns-in-Err
unfolding answer_number
returns-in-Err c = ap (λ (n : ℕ). 65536 + n) (c.from.ensures ∙ c.number.ensures) ∙ sym (ap answer_number c.in-Err.is)
