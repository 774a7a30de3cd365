-- `needsets::file::put_head` meets its contract. Assumes nothing.
use mathlib.Core.Path.{refl}
use Rattle.rules.specs.Numbers.{low, high}
use Rattle.rules.specs.Fields.{field}
use Rattle.needsets.specs.Files.{head_bytes}
use Rattle.needsets.proofs.file.put_head.Goals as goal

pub returns : goal.returns
unfolding head_bytes field low high
returns c = rw c.copy_from_slice.ensures.after refl
