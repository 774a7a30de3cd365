use Rattle.std.proofs.Common.{◌≡◌, ℕ, ◌+◌, ◌<◌}
use mathlib.Core.List.{Memᴰ}
use Rattle.rules.specs.Sizes.{max_jobs}
use Rattle.rules.specs.Basics.{at}
use Rattle.needrows.specs.Rows.{takers_of}
use Rattle.releases.specs.Codes.{slot_bound, raised_over}
use Rattle.releases.specs.Peels.{left}
use Rattle.releases.proofs.tail_of.Given as goal

abbrev pub invariant-loop-taker : goal.invariant-loop-taker
invariant-loop-taker l = ((k : ℕ) → Memᴰ k (left l.taker-iterator) → (k < max_jobs) × (at l.tail k + 1 < slot_bound))
    × (raised_over (at l.tail) l.code (left l.taker-iterator) ≡ raised_over (at l.tail) 0 (takers_of l.fn.rows l.fn.jobs l.fn.job))
