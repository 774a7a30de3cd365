use mathlib.Core.Path.{◌≡◌}
use Prim.Native.Nat.{ℕ}
use lib.ListN.{length}
use Rattle.places.specs.Windows.{Windows}
use Rattle.lengths.specs.Searching.{Search}
use Rattle.lengths.specs.Steps.{Going}
use Rattle.lengths.proofs.search.Given as goal

abbrev pub invariant-loop-slots : goal.invariant-loop-slots
invariant-loop-slots l = (length l.dead ≡ length l.initial.dead)
    × ((W : Windows) (cap : ℕ)
    → Search W cap l.filled l.least l.limit l.jobs l.initial.tables l.places l.tail (length l.initial.dead) l.initial.path
    → Going W cap l.least l.has l.slots l.tables l.path)
