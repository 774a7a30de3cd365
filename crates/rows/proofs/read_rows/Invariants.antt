use Rattle.rows.specs.RowByRow.{ReadTo}
use Rattle.std.specs.Prelude.{◌-◌, length}
use Rattle.rows.proofs.read_rows.Given as goal

abbrev pub invariant-loop-at : goal.invariant-loop-at
invariant-loop-at l = ReadTo l.table l.offset l.start l.board l.count l.at

abbrev pub decreases-loop-at : goal.decreases-loop-at
decreases-loop-at l = length l.table - l.at
