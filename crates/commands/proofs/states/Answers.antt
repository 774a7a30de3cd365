-- All three buffers are large enough, so the number is one of the questions that the planner asks.
use Rattle.std.proofs.Common.{arith}
use Rattle.laws.specs.Refusals.{PlanNumber}
use Rattle.laws.proofs.States.{states-numbers}
use Rattle.gate.specs.Laws.{said-in}
use Rattle.commands.proofs.states.Goals as goal

pub returns : goal.returns
returns c =
    let w = c.large_buffer-work.ensures in
    said-in PlanNumber _ _ c.states_bytes.ensures (states-numbers _ _ _ _ (omega arith) (omega (arith, w)) (omega arith))
