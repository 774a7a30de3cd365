-- `writer::put_name` meets its contract: before each turn so many bytes of the name stand at the front. Assumes nothing.
use Rattle.std.proofs.Common.{◌≡◌, ◌++◌, take, drop}
use Rattle.writer.proofs.put_name.Given as goal

abbrev pub invariant-loop-i : goal.invariant-loop-i
invariant-loop-i l = l.table ≡ take l.i l.name ++ drop l.i l.initial.table
