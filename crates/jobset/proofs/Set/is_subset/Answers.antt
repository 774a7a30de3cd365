-- `jobset::Set::is_subset` meets its contract. The code's test is the definition. Assumes nothing.
use mathlib.Core.Path.{refl}
use Rattle.jobset.specs.Sets.{is_subset}
use Rattle.jobset.proofs.Set.is_subset.Goals as goal

pub returns : goal.returns
unfolding is_subset
returns c = refl
