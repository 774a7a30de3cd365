use Rattle.std.proofs.Common.{◌≡◌, ◌+◌}
use Rattle.needrows.specs.Rows.{takers_of}
use Rattle.releases.specs.Peels.{each, left}
use Rattle.releases.specs.Counted.{Countable}
use Rattle.releases.proofs.count_takers.Given as goal

abbrev pub invariant-loop-taker : goal.invariant-loop-taker
invariant-loop-taker l = Countable (left l.taker-iterator) l.waits
    × (each (◌+ 1) (left l.taker-iterator) l.waits ≡ each (◌+ 1) (takers_of l.fn.rows l.fn.jobs l.fn.giver) l.initial.waits)
