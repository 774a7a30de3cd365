-- `jobset::Set::is_empty` meets its contract. The code's test is the definition. Assumes nothing.
use mathlib.Core.Path.{refl}
use Rattle.jobset.specs.Sets.{is_empty}
use Rattle.jobset.proofs.Set.is_empty.Goals as goal

pub returns : goal.returns
unfolding is_empty
returns c = refl
