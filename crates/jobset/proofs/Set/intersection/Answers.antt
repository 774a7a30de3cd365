-- `jobset::Set::intersection` meets its contract. The code's `&` is the definition. Assumes nothing.
use mathlib.Core.Path.{refl}
use Rattle.jobset.specs.Sets.{intersection}
use Rattle.jobset.proofs.Set.intersection.Goals as goal

pub returns : goal.returns
unfolding intersection
returns c = refl
