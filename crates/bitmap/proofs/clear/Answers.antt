-- `bitmap::clear` meets its contract. Assumes nothing.
use Rattle.std.proofs.Common.{arith}
use Rattle.std.proofs.lemmas.Grind.{common_steps}
use Rattle.bitmap.specs.Marks.{cleared}
use Rattle.bitmap.proofs.clear.Goals as goal

pub returns : goal.returns
unfolding cleared
returns c = grind (arith, common_steps)
