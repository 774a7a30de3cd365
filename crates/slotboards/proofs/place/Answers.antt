-- `slotboards::place` meets its contract. Assumes nothing.
use Rattle.slotboards.specs.PlacingLaws.{boarded}
use Rattle.slotboards.proofs.place.Goals as goal

pub returns : goal.returns
returns c = boarded _ _ _ _ _ _ c.place_slots.ensures c.largest.ensures
