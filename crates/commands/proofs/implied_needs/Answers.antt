-- The list has room for all pairs, so the number is one of the questions that a job file is asked.
use Rattle.std.proofs.Common.{arith}
use Rattle.laws.specs.Refusals.{ImpliedNumber}
use Rattle.laws.proofs.Refusals.{implied-numbers}
use Rattle.gate.specs.Laws.{said-in}
use Rattle.commands.proofs.implied_needs.Goals as goal

pub returns : goal.returns
returns c = said-in ImpliedNumber _ _ c.list_bytes.ensures (implied-numbers _ _ (omega arith))
