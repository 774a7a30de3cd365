-- `releases::least` meets its contract: before each turn the number is the greatest span of the jobs below the index. Assumes nothing.
use Rattle.std.proofs.Common.{refl, add-one}
use Rattle.rules.specs.Basics.{most}
use Rattle.releases.specs.Least.{least_of}
use Rattle.releases.proofs.least.Goals as goal

pub loop-job-init : goal.loop-job-init
unfolding least_of most
loop-job-init c = refl

pub loop-job-preserved : goal.loop-job-preserved
unfolding least_of most
loop-job-preserved c = rw (add-one c.loop-job.job, c.max-most.ensures, c.span.ensures, c.loop-job.invariant) refl
