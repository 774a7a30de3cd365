use Rattle.implied.specs.Listing.{rows_from}
use Rattle.implied.specs.Writing.{ToCome}
use Rattle.implied.proofs.put_rows.Given as goal

abbrev pub invariant-loop-giver : goal.invariant-loop-giver
invariant-loop-giver l = ToCome 0 (rows_from l.takers l.beyond l.jobs 0) l.initial.list l.next (rows_from l.takers l.beyond l.jobs l.giver) l.list
