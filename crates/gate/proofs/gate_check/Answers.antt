-- `gate::gate_check` meets its contract. Assumes nothing.
use Rattle.std.proofs.Common.{ap, ◌∙◌}
use Rattle.rules.specs.Fields.{number_of}
use Rattle.table.specs.Entries.{number-passed}
use Rattle.gate.proofs.gate_check.Goals as goal

pub returns-in-Ok : goal.returns-in-Ok
unfolding number_of
returns-in-Ok c = ap number_of c.in-Ok.ensures ∙ number-passed _

pub returns-in-Err : goal.returns-in-Err
unfolding number_of
returns-in-Err c = c.from.ensures ∙ c.number.ensures ∙ ap number_of c.in-Err.ensures ∙ number-passed _
