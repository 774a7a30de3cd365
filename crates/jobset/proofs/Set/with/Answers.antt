-- `jobset::Set::with` meets its contract. Assumes nothing.
use mathlib.Core.Path.{ap, ◌∙◌}
use Rattle.jobset.specs.Sets.{with, union}
use Rattle.jobset.proofs.Set.with.Goals as goal

pub returns : goal.returns
unfolding with
returns c = c.union.ensures ∙ ap (union c.args.self) c.one-one.ensures
