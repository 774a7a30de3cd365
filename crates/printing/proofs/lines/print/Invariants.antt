use Rattle.std.specs.Prelude.{◌≡◌, not, eqb, ◌+◌, ◌*◌, ◌/◌, length, drop}
use Rattle.std.specs.Slice.Iter.{chunks_exact_rest, chunks_exact_size}
use Rattle.rules.specs.Basics.{at}
use Rattle.laws.specs.Loops.{AllSoFar}
use Rattle.printing.proofs.lines.print.Given as goal

abbrev pub invariant-loop-line : goal.invariant-loop-line
invariant-loop-line l =
    AllSoFar (λ i. not (eqb (at l.list (3 * i + 2)) 0)) (length l.list / 3) (length l.yielded) l.all
    × (drop (3 * length l.yielded) l.list ≡ chunks_exact_rest l.line-iterator) × (chunks_exact_size l.line-iterator ≡ 3)
