use Rattle.std.proofs.Common.{◌≡◌}
use Rattle.needrows.specs.Rows.{takers_of}
use Rattle.releases.specs.Peels.{peel_of, peel_all, left}
use Rattle.releases.specs.Ready.{Ready}
use Rattle.releases.proofs.peel_takers.Given as goal

abbrev pub invariant-loop-taker : goal.invariant-loop-taker
invariant-loop-taker l = Ready l.fn.jobs (left l.taker-iterator) (peel_of l.release l.waits l.order l.entered)
    × (peel_all l.slot (left l.taker-iterator) (peel_of l.release l.waits l.order l.entered)
    ≡ peel_all l.slot (takers_of l.fn.rows l.fn.jobs l.fn.job) (peel_of l.initial.release l.initial.waits l.initial.order l.initial.entered))
