-- The place so far has the highest job of those that are taken. Assumes nothing.
use Rattle.jobset.specs.Sets.{members}
use Rattle.layout.specs.Layout.{tables_in}
use Rattle.placesets.specs.Listing.{Leading}
use Rattle.placesets.proofs.last_place.Given as goal

abbrev pub invariant-loop-p : goal.invariant-loop-p
invariant-loop-p l = Leading ((tables_in l.tables).who l.slot) (members l.fn.places) l.last (members l.p-iterator.rest)
