-- `placesets::givers_at` meets its contract. Assumes nothing.
use Rattle.layout.specs.Layout.{tables_in}
use Rattle.placesets.proofs.givers_at.Goals as goal

pub returns : goal.returns
unfolding tables_in
returns c = c.set_at.ensures
