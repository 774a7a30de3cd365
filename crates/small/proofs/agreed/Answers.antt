-- `small::agreed` meets its contract. Assumes nothing.
use Rattle.std.proofs.Common.{sym, ◌∙◌}
use Rattle.small.proofs.Missing.{both-same, both-differ, no-least, no-plan}
use Rattle.small.proofs.agreed.Goals as goal

pub returns-in-Some-Some : goal.returns-in-Some-Some
returns-in-Some-Some c =
    both-same c.args.planned c.args.least _ _ c.in-Some-Some.is-0 c.in-Some-Some.is-1 (sym c.from.ensures ∙ c.if-from-fewest.true)

pub returns-in_default : goal.returns-in_default
returns-in_default c =
    both-differ c.args.planned c.args.least _ _ c.in-Some-Some.is-0 c.in-Some-Some.is-1 (λ e. c.if-from-fewest.false (c.from.ensures ∙ e))

pub returns-in_default-2 : goal.returns-in_default-2
returns-in_default-2 c = no-least c.args.planned c.args.least _ c.in_default.is-0 c.in_default.is-1

pub returns-in_default-3 : goal.returns-in_default-3
returns-in_default-3 c = no-plan c.args.planned c.args.least c.in_default.is-0
