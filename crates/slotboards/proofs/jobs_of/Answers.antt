-- `slotboards::jobs_of` meets its contract. Assumes nothing.
use mathlib.Core.Path.{ap}
use Prim.Native.Nat.{ℕ}
use Rattle.slotboards.proofs.jobs_of.Goals as goal

pub returns : goal.returns
returns c = ap (λ (b : ℕ). record { bits = b }) c.of_byte.ensures.0
