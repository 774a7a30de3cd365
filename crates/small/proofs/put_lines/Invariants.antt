use Rattle.laws.specs.Writing.{WrittenSoFar}
use Rattle.small.specs.Lines.{line_of}
use Rattle.small.proofs.put_lines.Given as goal

abbrev pub invariant-loop-number : goal.invariant-loop-number
invariant-loop-number l = WrittenSoFar (line_of l.jobs) l.many l.first l.initial.list l.number l.at l.list
