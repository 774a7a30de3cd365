use Rattle.rules.specs.Basics.{filter}
use Rattle.releases.specs.Peels.{left}
use Rattle.implied.specs.Beyond.{in_row}
use Rattle.implied.specs.Listing.{pairs_of, Few, row_from}
use Rattle.implied.specs.Writing.{ToCome}
use Rattle.implied.proofs.put_row.Given as goal

abbrev pub invariant-loop-taker : goal.invariant-loop-taker
invariant-loop-taker l = Few (left l.taker-iterator)
    × ToCome l.at (row_from l.fn.takers l.beyond l.fn.jobs l.giver 0) l.initial.list l.next
    (pairs_of l.giver (filter (in_row l.beyond l.giver) (left l.taker-iterator))) l.list
