use Rattle.needrows.specs.Rows.{takers_of}
use Rattle.releases.specs.Peels.{left}
use Rattle.implied.specs.Joining.{ToJoin}
use Rattle.implied.proofs.add_takers.Given as goal

abbrev pub invariant-loop-taker : goal.invariant-loop-taker
invariant-loop-taker l = ToJoin l.takers l.jobs l.giver (takers_of l.takers l.jobs l.giver) l.initial.beyond (left l.taker-iterator) l.beyond
