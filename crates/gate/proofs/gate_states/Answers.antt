-- `gate::gate_states` meets its contract. Assumes nothing.
use mathlib.Core.Path.{◌∙◌}
use native.Mathlib.Omega.{arith}
use Rattle.gate.specs.Laws.{size_few, answer-number, buffers-left, states-few, states-have-bytes}
use Rattle.gate.proofs.gate_states.Goals as goal

pub answer_number-requires : goal.answer_number-requires
answer_number-requires c =
    let p = c.state_numbers in
    size_few p.result _ _ _ p.ensures.table_after (states-few _ _ _ _ (λ i. omega (arith, c.type_inv.file i)))

pub returns : goal.returns
returns c =
    let p = c.state_numbers in
    let w = buffers-left p.result _ _ _ p.ensures.table_after in
    record {
      value = c.answer_number.ensures ∙ answer-number p.result _ _ _ p.ensures.table_after (states-have-bytes _ _ _ _);
      work_after = w.0;
      table_after = w.1;
      states_after = p.ensures.states_after;
    }
