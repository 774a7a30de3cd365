-- `slotboards::blank_columns` meets its contract. Assumes nothing.
use mathlib.Core.Path.{refl}
use Rattle.slotboards.specs.Placing.{blank}
use Rattle.slotboards.proofs.blank_columns.Goals as goal

pub returns : goal.returns
unfolding blank
returns c = refl
