-- What is left to do gives the same as all. Assumes nothing.
use Rattle.std.proofs.Common.{◌≡◌}
use Rattle.layout.specs.Layout.{tables_in}
use Rattle.lengths.specs.Starting.{starts_from}
use Rattle.lengths.proofs.starts_of.Given as goal

abbrev pub invariant-loop-slot : goal.invariant-loop-slot
invariant-loop-slot l = starts_from (tables_in l.tables) l.slot l.slots l.path l.starts ≡ starts_from (tables_in l.tables) 0 l.slots l.path l.fn.starts
