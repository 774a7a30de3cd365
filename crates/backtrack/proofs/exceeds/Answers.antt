-- `backtrack::exceeds` meets its contract. Assumes nothing.
use native.Mathlib.Omega.{arith}
use Rattle.places.specs.Slot.{fit_of}
use Rattle.backtrack.proofs.exceeds.Goals as goal

pub overflow_add-result : goal.overflow_add-result
unfolding fit_of
overflow_add-result c = let p = c.requires in omega (arith, c.count-2.ensures, c.count.ensures)

pub returns : goal.returns
unfolding fit_of
returns c = rw (c.from-cap.ensures, c.count-2.ensures, c.count.ensures)
