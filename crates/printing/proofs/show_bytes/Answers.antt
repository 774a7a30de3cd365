-- `printing::show_bytes` meets its contract. Assumes nothing.
use Rattle.std.proofs.Common.{sym, ap, ◌∙◌}
use Rattle.refusals.specs.Refusals.{refusal_number}
use Rattle.gate.specs.Numbers.{said_number}
use Rattle.gate.specs.Laws.{refusal-number-is}
use Rattle.printing.proofs.show_bytes.Goals as goal

pub returns-in-Err : goal.returns-in-Err
returns-in-Err c = ap said_number c.print_refused.ensures ∙ sym (ap refusal_number c.in-Err.is) ∙ refusal-number-is _ _ c.lookup.ensures

pub returns : goal.returns
returns c = sym (ap refusal_number c.in_default.is) ∙ refusal-number-is _ _ c.lookup.ensures
