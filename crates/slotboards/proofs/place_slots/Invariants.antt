use mathlib.Core.Path.{◌≡◌}
use Rattle.layout.specs.Layout.{tables_in}
use Rattle.slotboards.specs.Placing.{place_slots, last_of, blank}
use Rattle.slotboards.proofs.place_slots.Given as goal

abbrev pub invariant-loop-slot : goal.invariant-loop-slot
invariant-loop-slot l = (l.boards ≡ place_slots (tables_in l.tables) l.path l.slot blank) × (l.last ≡ last_of l.path l.slot)
