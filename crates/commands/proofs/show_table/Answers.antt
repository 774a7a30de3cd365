-- The number is one of the questions that the lookup asks.
use Rattle.laws.specs.Refusals.{LookupNumber, number_in, lookup-number}
use Rattle.gate.specs.Laws.{said-in}
use Rattle.commands.proofs.show_table.Goals as goal

pub returns : goal.returns
returns g c = said-in LookupNumber _ _ c.show_bytes.ensures (number_in LookupNumber _ (lookup-number _ 0 0))
