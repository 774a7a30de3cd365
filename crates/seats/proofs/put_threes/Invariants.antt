use Rattle.std.proofs.Common.{◌≡◌, ◌≤◌}
use Rattle.layout.specs.Layout.{three_at}
use Rattle.threes.specs.Threes.{entry}
use Rattle.seats.specs.Words.{with_row}
use Rattle.seats.proofs.put_threes.Given as goal

-- so many entries are in the tables
abbrev pub invariant-loop-byte : goal.invariant-loop-byte
invariant-loop-byte l = (l.byte ≤ 256) × (l.tables ≡ with_row three_at entry l.byte l.initial.tables)
