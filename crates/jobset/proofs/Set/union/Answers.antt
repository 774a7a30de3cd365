-- `jobset::Set::union` meets its contract. The code's `|` is the definition. Assumes nothing.
use mathlib.Core.Path.{refl}
use Rattle.jobset.specs.Sets.{union}
use Rattle.jobset.proofs.Set.union.Goals as goal

pub returns : goal.returns
unfolding union
returns c = refl
