-- `placesets::by_number` meets its contract. Assumes nothing.
use Rattle.std.proofs.Common.{◌<◌, arith, length-set}
use Rattle.rules.specs.Sizes.{max_width}
use Rattle.jobset.specs.Members.{without-less}
use Rattle.layout.specs.Layout.{tables_in}
use Rattle.placesets.specs.Listing.{Last, listing_start, listing-eight, listing-room, listing-next, listing-end}
use Rattle.placesets.proofs.by_number.Goals as goal
use Rattle.placesets.proofs.by_number.Goals.{In-Some}

-- the place of a turn
last : (c : In-Some) → Last ((tables_in c.args.tables.now).who c.args.slot) c.loop-p.rest c.in-Some.p
last c = c.in-Some.ensures

-- there is room for one more
room : (c : In-Some) → c.loop-p.count < max_width
room c = listing-room c.requires.2 c.loop-p.invariant.listing (last c)

-- the place is below eight
small : (c : In-Some) → c.in-Some.p < max_width
small c = listing-eight c.requires.2 c.loop-p.invariant.listing c.in-Some.p (last c).is_member

pub loop-p-init : goal.loop-p-init
loop-p-init c = record { few = omega arith; len = c.requires.1; listing = listing_start c.requires.2 c.args.row.now }

pub last_place-requires : goal.last_place-requires
last_place-requires c = (c.requires.0, listing-eight c.requires.2 c.loop-p.invariant.listing)

pub overflow_cast-row : goal.overflow_cast-row
overflow_cast-row c = omega (arith, small (goal.at.overflow_cast-row c).In-Some)

pub bounds-row-count : goal.bounds-row-count
bounds-row-count c = room (goal.at.bounds-row-count c).In-Some

pub without-rest-requires : goal.without-rest-requires
without-rest-requires c = omega (arith, small (goal.at.without-rest-requires c).In-Some)

pub loop-p-smaller : goal.loop-p-smaller
loop-p-smaller c = rw c.without-rest.ensures (without-less c.loop-p.rest c.in-Some.p (last (goal.at.loop-p-smaller c).In-Some).is_member)

pub loop-p-preserved : goal.loop-p-preserved
loop-p-preserved c =
    let l = c.loop-p.invariant in
    let i = (goal.at.loop-p-preserved c).In-Some in
    let r = room i in record {
      few = omega arith;
      len = simp length-set l.len;
      listing = rw c.without-rest.ensures (listing-next c.requires.2 l.listing (last i) (rw l.len r));
    }

pub returns : goal.returns
returns c = let l = c.loop-p.invariant in listing-end c.requires.2 l.listing l.few c.in_default.ensures
