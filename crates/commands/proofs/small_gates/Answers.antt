-- The planner gives the same for every small gate.
use Rattle.std.proofs.Common.{ap, ◌∙◌}
use Rattle.small.specs.Lines.{all_agreed}
use Rattle.small.specs.LineLaws.{all-agreed}
use Rattle.commands.proofs.small_gates.Goals as goal

pub returns : goal.returns
returns c = c.print_gates.ensures ∙ ap all_agreed c.small_gates-list.ensures ∙ all-agreed
