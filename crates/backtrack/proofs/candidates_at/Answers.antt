-- `backtrack::candidates_at` meets its contract. Assumes nothing.
use Rattle.std.proofs.Common.{◌≡◌, ◌<◌, refl}
use mathlib.Core.List.{Memᴰ}
use Rattle.jobset.specs.Members.{in_members}
use Rattle.layout.specs.Layout.{tables_in}
use Rattle.backtrack.specs.Sorting.{sort_places, found_at}
use Rattle.backtrack.proofs.candidates_at.Goals as goal
use Rattle.backtrack.proofs.candidates_at.Goals.{In-Some, After-set_at-held}

-- the place of a turn
small : (c : In-Some) → c.in-Some.p < 64
small c = ((in_members c.loop-p.p-iterator.rest c.in-Some.p).0 (rw c.in-Some.ensures.steps (Memᴰ.head refl))).0

-- the places of the slot
held-is : (c : After-set_at-held) → c.set_at-held.result ≡ (tables_in c.args.tables.now).held c.args.slot
unfolding tables_in
held-is c = c.set_at-held.ensures

pub loop-p-init : goal.loop-p-init
unfolding found_at
loop-p-init c = rw (c.into_iter-p-iterator.ensures, c.minus-p-items.ensures, held-is (goal.at.loop-p-init c).After-set_at-held) refl

pub givers_at-requires : goal.givers_at-requires
givers_at-requires c = (c.requires, small c)

pub sort_place-c-requires : goal.sort_place-c-requires
sort_place-c-requires c = small (goal.at.sort_place-c-requires c).In-Some

pub loop-p-preserved : goal.loop-p-preserved
unfolding sort_places
loop-p-preserved c = rw (c.sort_place-c.ensures, c.givers_at.ensures) (rw c.in-Some.ensures.steps at c.loop-p.invariant)

pub returns : goal.returns
unfolding sort_places
returns c = rw c.in-None.ensures.steps.0 at c.loop-p.invariant
