-- `bitmap::marked` meets its contract. Assumes nothing.
use mathlib.Core.Path.{refl}
use Rattle.jobset.specs.Sets.{digit}
use Rattle.bitmap.specs.Marks.{is_marked}
use Rattle.bitmap.proofs.marked.Goals as goal

pub returns : goal.returns
unfolding is_marked digit
returns c = refl
