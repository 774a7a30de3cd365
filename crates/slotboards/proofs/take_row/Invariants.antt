use Rattle.std.proofs.Common.{◌≡◌, ◌-◌, ◌^◌, ◌<◌, length, take}
use Rattle.std.specs.Slice.Iter.{iter_rest}
use Rattle.jobset.specs.declared.Set.{Set}
use Rattle.jobset.specs.Sets.{members}
use Rattle.layout.specs.Layout.{tables_in}
use Rattle.placesets.specs.Listing.{row_from}
use Rattle.slotboards.specs.Placing.{filling, take_lowest, each, Fits}
use Rattle.slotboards.proofs.take_row.Given as goal

-- the places that are left, with the boards that are left, lead to what all of them lead to
abbrev pub invariant-loop-place : goal.invariant-loop-place
invariant-loop-place l =
    let n = l.count - length l.yielded in
    let left = row_from l.row n in
    let take_each = each (take_lowest (tables_in l.tables) l.slot) in
    (free : Set) × (free.bits < 2 ^ 64) × (members l.place-iterator.b.rest ≡ members free) × (iter_rest l.place-iterator.a.iter ≡ take n l.row)
    × Fits l.tables l.slot left (filling free l.boards)
    × (take_each left (filling free l.boards) ≡ take_each (row_from l.row l.count) (filling l.fn.first l.initial.boards))
