use Rattle.implied.specs.Joining.{BytesJoined}
use Rattle.implied.proofs.add_taker.Given as goal

abbrev pub invariant-loop-i : goal.invariant-loop-i
invariant-loop-i l = BytesJoined l.takers l.giver l.taker l.initial.beyond l.i l.beyond
