use mathlib.Core.Path.{◌≡◌}
use Prim.Native.Nat.{◌-◌}
use lib.ListN.{length}
use Rattle.laws.specs.Writing.{WrittenSoFar}
use Rattle.small.specs.LineLaws.{lines_of_next}
use Rattle.small.proofs.small_gates.Given as goal

abbrev pub invariant-loop-jobs : goal.invariant-loop-jobs
invariant-loop-jobs l = (length l.initial.list ≡ 1716) × WrittenSoFar lines_of_next 4 0 l.initial.list (l.jobs - 1) l.at l.list
