use Rattle.std.proofs.Common.{length}
use mathlib.Core.Path.{◌≡◌}
use Prim.Native.Nat.{ℕ}
use Rattle.seats.specs.Due.{with_due}
use Rattle.seats.specs.Words.{Small}
use Rattle.seats.proofs.set_due.Given as goal

abbrev pub invariant-loop-place : goal.invariant-loop-place
invariant-loop-place l = ((n : ℕ) × Small n l.tables) × (l.tables ≡ with_due l.slots l.places l.tail (length l.yielded) l.initial.tables)
