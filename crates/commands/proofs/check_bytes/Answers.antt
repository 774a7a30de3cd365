-- The number of what is printed is that of the rules.
use Rattle.std.proofs.Common.{ap, ◌∙◌}
use Rattle.gate.specs.Numbers.{said_number}
use Rattle.gate.specs.Laws.{said-number, check-number-is}
use Rattle.commands.proofs.check_bytes.Goals as goal

pub returns : goal.returns
returns c = ap said_number c.print_verdict.ensures ∙ said-number _ ∙ check-number-is _ _ c.check.ensures
