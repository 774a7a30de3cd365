-- `needsets::numbers::is_set` meets its contract. A shift is a division by a power of two. Assumes nothing.
use mathlib.Core.Path.{refl}
use Rattle.rules.specs.SmallGates.{bit}
use Rattle.needsets.proofs.numbers.is_set.Goals as goal

pub returns : goal.returns
unfolding bit
returns c = refl
