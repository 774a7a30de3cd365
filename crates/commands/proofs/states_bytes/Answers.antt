-- The number of what is printed is that of the rules.
use Rattle.std.proofs.Common.{ap, ◌∙◌}
use Rattle.gate.specs.Numbers.{said_number}
use Rattle.gate.specs.Laws.{said-number, planned-number}
use Rattle.commands.proofs.states_bytes.Goals as goal

pub returns : goal.returns
returns c =
    ap said_number c.print_states.ensures ∙ said-number _ ∙ (planned-number c.state_numbers-p.result _ _ _ c.state_numbers-p.ensures.table_after).0
