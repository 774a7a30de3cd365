use Rattle.std.proofs.Common.{◌≡◌}
use Rattle.printing.proofs.numbers.print_entries.Given as goal

-- so many lines are printed as there are bytes below this one
abbrev pub invariant-loop-byte : goal.invariant-loop-byte
invariant-loop-byte l = l.count ≡ l.byte
