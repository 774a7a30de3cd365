use Rattle.std.proofs.Common.{◌≡◌, ℕ, ◌<◌}
use mathlib.Core.List.{Memᴰ}
use Rattle.needrows.specs.Rows.{left_at, takers_of}
use Rattle.seats.specs.Give.{give_each}
use Rattle.seats.proofs.Jobs.give_row.Given as goal

abbrev pub invariant-loop-taker : goal.invariant-loop-taker
invariant-loop-taker l =
    let s = l.taker-iterator in
    let j = l.self in
    let left = left_at s.rows.now s.giver s.last s.at s.here in
    let all = takers_of j.rows.now j.count l.giver in
    ((k : ℕ) → Memᴰ k left → k < j.count)
    × (give_each j.release.now l.place l.last left l.givers ≡ give_each j.release.now l.place l.last all l.initial.givers)
