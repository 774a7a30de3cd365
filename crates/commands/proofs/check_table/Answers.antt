-- The number is one of the questions that the check asks.
use Rattle.laws.specs.Refusals.{CheckNumber, number_in}
use Rattle.laws.proofs.Refusals.{check-number}
use Rattle.gate.specs.Laws.{said-in}
use Rattle.commands.proofs.check_table.Goals as goal

pub returns : goal.returns
returns g c = said-in CheckNumber _ _ c.check_bytes.ensures (number_in CheckNumber _ (check-number _ _))
