use Rattle.std.proofs.Common.{◌≡◌}
use Rattle.slotboards.specs.Rows.{loaded, stored}
use Rattle.slotboards.proofs.place_rows.Given as goal

-- the first i records are copied out
abbrev pub invariant-loop-i : goal.invariant-loop-i
invariant-loop-i l = l.c ≡ loaded l.fn.rows l.i

-- the first i records are written back
abbrev pub invariant-loop-i-2 : goal.invariant-loop-i-2
invariant-loop-i-2 l = l.rows ≡ stored l.c l.i l.initial.rows
