use Rattle.std.proofs.Common.{◌≤◌}
use Rattle.writer.specs.TableLaws.{up_to, WrittenTo}
use Rattle.writer.proofs.write_table.Given as goal

abbrev pub invariant-loop-i : goal.invariant-loop-i
invariant-loop-i l = (6 ≤ l.at) × WrittenTo (up_to l.file l.offsets l.starts l.boards l.slots l.count l.i) l.initial.table l.at l.table
