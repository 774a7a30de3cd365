use Rattle.rules.specs.SmallGates.{job_field}
use Rattle.laws.specs.Writing.{WrittenSoFar}
use Rattle.needsets.proofs.file.put_jobs.Given as goal

abbrev pub invariant-loop-job : goal.invariant-loop-job
invariant-loop-job l = WrittenSoFar job_field l.jobs 8 l.initial.file l.job l.at l.file
