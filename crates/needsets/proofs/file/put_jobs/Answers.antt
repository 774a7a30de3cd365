-- `needsets::file::put_jobs` meets its contract. The jobs from the loop's up are still to come. Assumes nothing.
use Prim.Native.Nat.{◌+◌, ◌≤◌}
use native.Mathlib.Omega.{arith}
use lib.ListN.{length}
use Rattle.rules.specs.SmallGates.{job_field}
use Rattle.laws.specs.Writing.{so-far-room, so-far-put, so-far-size, so-far-end}
use Rattle.needsets.specs.FileLaws.{put-part, part-long, job-size}
use Rattle.needsets.proofs.file.put_jobs.Goals as goal
use Rattle.needsets.proofs.file.put_jobs.Goals.{In-loop-job}

-- there is room for the job
room : (c : In-loop-job) → c.loop-job.at + 6 ≤ length c.loop-job.file
room c = omega (arith, so-far-room c.loop-job.invariant c.loop-job-test.true c.requires.1, job-size c.loop-job.job)

pub put_job-requires : goal.put_job-requires
put_job-requires c = let l = c.loop-job in (omega arith, omega (arith, room (goal.at.put_job-requires c).In-loop-job, part-long l.at l.file))

pub loop-job-preserved : goal.loop-job-preserved
loop-job-preserved c =
    let l = c.loop-job in
    so-far-put l.invariant c.loop-job-test.true _ _ (omega (arith, job-size l.job))
    (put-part l.at 6 (job_field l.job) l.file _ (job-size l.job) (room (goal.at.loop-job-preserved c).In-loop-job) c.put_job.ensures)

pub returns : goal.returns
returns c = let s = c.loop-job.invariant in record { size = so-far-size s (omega arith); bytes = so-far-end s (omega arith) }
