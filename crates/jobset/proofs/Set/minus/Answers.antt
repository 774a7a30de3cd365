-- `jobset::Set::minus` meets its contract. The code is the definition. Assumes nothing.
use mathlib.Core.Path.{refl}
use Rattle.jobset.specs.Sets.{minus}
use Rattle.jobset.proofs.Set.minus.Goals as goal

pub returns : goal.returns
unfolding minus
returns c = refl
