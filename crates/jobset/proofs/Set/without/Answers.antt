-- `jobset::Set::without` meets its contract. Assumes nothing.
use mathlib.Core.Path.{ap, ◌∙◌}
use Rattle.jobset.specs.Sets.{without, minus}
use Rattle.jobset.proofs.Set.without.Goals as goal

pub returns : goal.returns
unfolding without
returns c = c.minus.ensures ∙ ap (minus c.args.self) c.one-one.ensures
