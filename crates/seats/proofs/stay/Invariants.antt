use mathlib.Core.Path.{◌≡◌}
use Prim.Native.Nat.{◌+◌, ◌-◌, ◌*◌}
use Rattle.layout.specs.Layout.{prev_at, who_at}
use Rattle.seats.specs.Carry.{left_at, job_at}
use Rattle.seats.specs.Words.{with_row}
use Rattle.seats.proofs.stay.Given as goal

abbrev pub invariant-loop-p : goal.invariant-loop-p
invariant-loop-p l = l.tables ≡ with_row (prev_at + 8 * l.slot) (left_at l.initial.tables (l.slot - 1) l.ended) l.p l.initial.tables

abbrev pub invariant-loop-q : goal.invariant-loop-q
invariant-loop-q l = l.tables ≡ with_row (who_at + 8 * l.slot) (job_at l.initial.tables (l.slot - 1)) l.q l.initial.tables
