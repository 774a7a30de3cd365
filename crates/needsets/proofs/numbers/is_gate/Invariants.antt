use mathlib.Core.Path.{◌≡◌}
use Rattle.needsets.specs.Marks.{marks}
use Rattle.needsets.proofs.numbers.is_gate.Given as goal

abbrev pub invariant-loop : goal.invariant-loop
invariant-loop l = l.marked ≡ marks l.jobs l.number l.counter
