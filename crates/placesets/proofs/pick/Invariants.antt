-- What the digits left take gives the same as all. Assumes nothing.
use Rattle.std.proofs.Common.{◌≡◌, true, ℕ}
use mathlib.Core.List.{map, Memᴰ}
use Rattle.rules.specs.Basics.{at}
use Rattle.jobset.specs.Sets.{member, members}
use Rattle.places.specs.Slot.{near_at}
use Rattle.layout.specs.Layout.{tables_in}
use Rattle.placesets.specs.Picking.{pick_from, picked_of}
use Rattle.placesets.proofs.pick.Given as goal

abbrev pub invariant-loop-k : goal.invariant-loop-k
invariant-loop-k l = record {
  inside : (k : ℕ) → Memᴰ k (members l.k-iterator.rest) → member l.fn.number k ≡ true;
  same : pick_from (near_at (tables_in l.tables) l.slot l.ran) l.places l.givers (map (at l.row) (members l.k-iterator.rest))
      ≡ picked_of (near_at (tables_in l.tables) l.slot l.ran) l.row l.fn.number;
}
