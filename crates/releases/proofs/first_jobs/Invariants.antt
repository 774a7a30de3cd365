use Rattle.releases.specs.Ends.{First}
use Rattle.releases.proofs.first_jobs.Given as goal

abbrev pub invariant-loop-job : goal.invariant-loop-job
invariant-loop-job l = First l.waits l.job l.count l.order
