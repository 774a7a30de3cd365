-- `gate::gate_plan` meets its contract. Assumes nothing.
use mathlib.Core.Path.{◌∙◌}
use native.Mathlib.Omega.{arith}
use Rattle.laws.proofs.Demands.{table-has-bytes}
use Rattle.gate.specs.Laws.{size_few, answer-number, buffers-left, plan-few}
use Rattle.gate.proofs.gate_plan.Goals as goal

pub answer_number-requires : goal.answer_number-requires
answer_number-requires c =
    let p = c.plan in
    size_few p.result _ _ _ p.ensures (plan-few _ _ _ (λ i. omega (arith, c.type_inv.file i)))

pub returns : goal.returns
returns c =
    let p = c.plan in
    let left = buffers-left p.result _ _ _ p.ensures in
    record {
      value = c.answer_number.ensures ∙ answer-number p.result _ _ _ p.ensures (table-has-bytes _ _ _);
      work_after = left.0;
      table_after = left.1;
    }
