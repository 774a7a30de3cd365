use Rattle.std.proofs.Common.{◌≡◌, length}
use Rattle.slotboards.specs.Rows.{path_of}
use Rattle.slotboards.proofs.path_of.Given as goal

abbrev pub invariant-loop-start : goal.invariant-loop-start
invariant-loop-start l = l.path ≡ path_of l.starts l.places (length l.yielded)
