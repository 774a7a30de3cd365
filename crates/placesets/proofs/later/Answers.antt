-- `placesets::later` meets its contract. Assumes nothing.
use borrow.Author.Tests.{lt-ltb, le-ltb}
use Rattle.rules.specs.Basics.{choose}
use Rattle.layout.specs.Layout.{tables_in}
use Rattle.placesets.specs.Listing.{later_of}
use Rattle.placesets.proofs.later.Goals as goal

pub returns-then-tables-first : goal.returns-then-tables-first
unfolding later_of choose tables_in
returns-then-tables-first c = rw (lt-ltb _ _ c.if-tables-first.true)

pub returns : goal.returns
unfolding later_of choose tables_in
returns c = rw (le-ltb _ _ c.if-tables-first.false)
