-- The ranks of a slot, job by job in rising number: the jobs from `job` on are still to come. Assumes nothing.
use Rattle.std.specs.Prelude.{◌≡◌, Bool, true, false, ℕ, ◌+◌, ◌-◌, ◌<◌}
use Rattle.std.proofs.Common.{arith}
use Rattle.rules.specs.Basics.{at}
use Rattle.rules.specs.Sizes.{max_width}
use Rattle.laws.specs.Width.{window}
use Rattle.slotstates.specs.declared.Ranks.{Ranks}
use Rattle.slotstates.specs.Ranks.{Times, ranked, RankedSoFar, ranked-yes, ranked-no}

module _ (z : Times) (s job : ℕ) {r : Ranks} (p : RankedSoFar z s (z.jobs - job) r) (h : job < z.jobs) (b : Bool)
    (test : b ≡ window (at z.releases) (at z.tails) z.limit s job) where
  counted : z.jobs - (z.jobs - job) ≡ job
  counted = omega arith

  fewer : z.jobs - job - 1 ≡ z.jobs - (job + 1)
  fewer = omega arith

  -- the window of the job holds the slot
  pub job-yes : b ≡ true → (r.count < max_width) × ((r' : Ranks) → r' ≡ ranked s (at z.starts job) r → RankedSoFar z s (z.jobs - (job + 1)) r')
  job-yes e =
      let turn = ranked-yes z s p (omega arith) b (rw counted test) e in
      (turn.0, λ r' q. rw (← fewer) (turn.1 r' (rw counted q)))

  -- it does not
  pub job-no : b ≡ false → RankedSoFar z s (z.jobs - (job + 1)) r
  job-no e = rw (← fewer) (ranked-no z s p (omega arith) b (rw counted test) e)
