-- `releases::peel_job` meets its contract. Assumes nothing.
use native.Mathlib.Omega.{arith}
use Rattle.releases.specs.Peels.{released, peel_job}
use Rattle.releases.proofs.peel_job.Goals as goal

pub peel_takers-requires : goal.peel_takers-requires
unfolding released
peel_takers-requires c =
    let p = c.requires in
    (p.0, p.1, omega (arith, c.behind-slot.ensures), rw c.behind-slot.ensures p.3)

pub returns : goal.returns
unfolding peel_job released
returns c = rw c.behind-slot.ensures at c.peel_takers.ensures
