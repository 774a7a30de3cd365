-- What could not be written is a table, so the number of the answer is 0 then; the number that is printed is that of the rules.
use Rattle.std.proofs.Common.{refl, sym, ap, ◌∙◌, length, true≢false}
use Rattle.gate.specs.Numbers.{said_number}
use Rattle.gate.specs.Laws.{said-number, planned-number, size_number}
use Rattle.commands.proofs.plan_to_file.Goals as goal

pub returns-then-not-save : goal.returns-then-not-save
returns-then-not-save g c =
    -- without a table there is nothing to write
    sym (size_number c.plan-p.result (λ none. true≢false (sym (c.save.ensures (ap length c.table_of-planned.ensures ∙ rw none refl)) ∙ c.if-not-save.true)))
    ∙ (planned-number c.plan-p.result _ _ _ c.plan-p.ensures).0

pub returns : goal.returns
returns g c = ap said_number c.print_planned.ensures ∙ said-number _ ∙ (planned-number c.plan-p.result _ _ _ c.plan-p.ensures).0
