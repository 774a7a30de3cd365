-- `threes::entry` meets its contract: the constant is the table. Assumes nothing.
use Rattle.std.proofs.Common.{ap, ◌∙◌, rules}
use Rattle.rules.specs.Basics.{at}
use Rattle.threes.specs.Table.{table}
use Rattle.threes.proofs.Table.{table_is}
use Rattle.threes.proofs.entry.Goals as goal

pub returns : goal.returns
unfolding table
returns c = ap (at table) c.from.ensures ∙ table_is _ (search rules)
