-- The number of what is printed is that of the rules.
use Rattle.std.proofs.Common.{ap, ◌∙◌}
use Rattle.implied.specs.Listing.{listed_number}
use Rattle.implied.specs.Answer.{listed-number}
use Rattle.gate.specs.Numbers.{said_number}
use Rattle.gate.specs.Laws.{said-number}
use Rattle.commands.proofs.list_bytes.Goals as goal

pub returns : goal.returns
unfolding listed_number
returns c =
    ap said_number c.print_listed.ensures ∙ said-number _ ∙ listed-number _ _ _ c.implied_needs-l.result c.implied_needs-l.ensures
