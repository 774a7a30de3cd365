-- Sorting what is left gives the same as sorting all. Assumes nothing.
use Rattle.std.proofs.Common.{◌≡◌}
use Rattle.jobset.specs.Sets.{members}
use Rattle.layout.specs.Layout.{tables_in}
use Rattle.backtrack.specs.Sorting.{sort_places, found_at}
use Rattle.backtrack.proofs.candidates_at.Given as goal

abbrev pub invariant-loop-p : goal.invariant-loop-p
invariant-loop-p l =
    sort_places ((tables_in l.tables).prev l.slot) l.done l.ran l.c (members l.p-iterator.rest) ≡ found_at (tables_in l.tables) l.slot l.fn.here l.done l.ran
