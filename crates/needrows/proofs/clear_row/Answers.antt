-- `needrows::clear_row` meets its contract. Assumes nothing.
use Prim.Native.Nat.{◌*◌}
use Rattle.needrows.specs.Rows.{without_row}
use Rattle.needrows.specs.Laws.{part-cleared}
use Rattle.needrows.proofs.clear_row.Goals as goal

pub returns : goal.returns
unfolding without_row
returns c = part-cleared (56 * c.args.job) c.args.rows.now c.clear.new.bytes c.clear.ensures
