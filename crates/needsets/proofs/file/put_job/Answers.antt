-- `needsets::file::put_job` meets its contract. Assumes nothing.
use mathlib.Core.Path.{refl}
use Rattle.rules.specs.Numbers.{low, high}
use Rattle.rules.specs.Fields.{field}
use Rattle.rules.specs.SmallGates.{job_field}
use Rattle.needsets.proofs.file.put_job.Goals as goal

pub returns : goal.returns
unfolding job_field field low high
returns c = rw c.copy_from_slice.ensures.after refl
