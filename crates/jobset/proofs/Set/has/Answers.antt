-- `jobset::Set::has` meets its contract. A shift is a division by a power of two. Assumes nothing.
use mathlib.Core.Path.{refl}
use Rattle.jobset.specs.Sets.{member, digit}
use Rattle.jobset.proofs.Set.has.Goals as goal

pub returns : goal.returns
unfolding member digit
returns c = refl
