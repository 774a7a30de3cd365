-- The row has the places that are taken out. Assumes nothing.
use Rattle.std.proofs.Common.{◌≡◌, ◌≤◌, length}
use Rattle.rules.specs.Sizes.{max_width}
use Rattle.layout.specs.Layout.{tables_in}
use Rattle.placesets.specs.Listing.{Listing}
use Rattle.placesets.proofs.by_number.Given as goal

abbrev pub invariant-loop-p : goal.invariant-loop-p
invariant-loop-p l = record {
  few : l.count ≤ max_width;
  len : length l.row ≡ max_width;
  listing : Listing ((tables_in l.tables).who l.slot) l.fn.places l.row l.count l.rest;
}

abbrev pub decreases-loop-p : goal.decreases-loop-p
decreases-loop-p l = l.rest.bits
