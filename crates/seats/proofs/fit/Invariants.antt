use mathlib.Core.Path.{◌≡◌}
use Rattle.rules.specs.Basics.{at}
use Rattle.layout.specs.Layout.{cap_at}
use Rattle.places.specs.Windows.{Windows}
use Rattle.seats.specs.Filled.{Filled, Fitting}
use Rattle.seats.proofs.fit.Given as goal

abbrev pub invariant-loop-slot : goal.invariant-loop-slot
invariant-loop-slot l =
    ((W : Windows) → Fitting W l.filled l.slots l.jobs l.initial.tables l.places l.tail → Filled W l.slot l.tables)
    × (at l.tables cap_at ≡ at l.initial.tables cap_at)
