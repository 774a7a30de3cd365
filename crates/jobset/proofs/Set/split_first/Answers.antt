-- `jobset::Set::split_first` meets its contract: the list of the members begins with the lowest. Assumes nothing.
use Rattle.std.proofs.Common.{rules, not, ◌∷◌, sym, ap, ◌∙◌}
use Rattle.jobset.specs.Sets.{members}
use Rattle.jobset.specs.Members.{turn, end}
use Rattle.jobset.proofs.Set.split_first.Goals as goal

pub returns-then-is_empty : goal.returns-then-is_empty
returns-then-is_empty c = (end c.args.self c.is_empty.result c.is_empty.ensures (ap not c.if-is_empty.true)).no-members

pub returns : goal.returns
returns c =
    let t = turn c.args.self c.is_empty.result c.lowest.result (search rules) c.is_empty.ensures (ap not c.if-is_empty.false) c.lowest.ensures in
    t.first ∙ ap (λ s. c.lowest.result ∷ members s) (sym (c.rest.ensures ∙ t.rest-is))
