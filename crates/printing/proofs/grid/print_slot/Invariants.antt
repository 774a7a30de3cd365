use Rattle.std.specs.Prelude.{◌≤◌}
use Rattle.printing.proofs.grid.print_slot.Given as goal

abbrev pub invariant-loop-board : goal.invariant-loop-board
invariant-loop-board l = l.blanks ≤ 13
