-- `jobset::Set::lowest` meets its contract. The code's trailing zeros are the definition. Assumes nothing.
use mathlib.Core.Path.{refl}
use Rattle.jobset.specs.Sets.{lowest}
use Rattle.jobset.proofs.Set.lowest.Goals as goal

pub returns : goal.returns
unfolding lowest
returns c = refl
