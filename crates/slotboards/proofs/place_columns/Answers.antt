-- `slotboards::place_columns` meets its contract. Assumes nothing.
use mathlib.Core.Path.{refl, sym}
use Rattle.slotboards.specs.Placing.{blank}
use Rattle.slotboards.proofs.place_columns.Goals as goal

pub place-count-requires : goal.place-count-requires
unfolding blank
place-count-requires c = (rw c.path_of.ensures c.requires.1, refl)

pub returns : goal.returns
returns c = (refl, rw (sym c.path_of.ensures) c.place-count.ensures)
