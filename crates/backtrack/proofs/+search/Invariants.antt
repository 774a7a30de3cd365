-- The functions of the search that call each other: the measure of each, and what the loop over the numbers of a row keeps. With each slot the
-- slots left fall; within a slot explore calls try_sets, that try_set or try_row, this try_number, and this try_set. Assumes nothing.
use Rattle.std.proofs.Common.{◌+◌, ◌-◌, ◌*◌, ◌^◌}
use Rattle.rules.specs.Sizes.{max_limit}
use Rattle.placesets.specs.Listing.{row_from}
use Rattle.placesets.specs.Numbers.{Ended, end_below, end_of, numbers_from}
use Rattle.backtrack.specs.Steps.{Going}
use Rattle.backtrack.proofs.+search.Given as goal

abbrev pub decreases-explore : goal.decreases-explore
decreases-explore l = 5 * (max_limit - l.slot) + 4

abbrev pub decreases-try_sets : goal.decreases-try_sets
decreases-try_sets l = 5 * (max_limit - l.slot) + 3

abbrev pub decreases-Slot::try_row : goal.decreases-Slot::try_row
decreases-Slot::try_row l = 5 * (max_limit - l.self.index) + 2

abbrev pub decreases-Slot::try_number : goal.decreases-Slot::try_number
decreases-Slot::try_number l = 5 * (max_limit - l.self.index) + 1

abbrev pub decreases-Slot::try_set : goal.decreases-Slot::try_set
decreases-Slot::try_set l = 5 * (max_limit - l.self.index)

abbrev pub invariant-Slot::try_row-loop-number : goal.invariant-Slot::try_row-loop-number
invariant-Slot::try_row-loop-number l = record {
  ended : Ended l.c.count l.size (end_of (numbers_from l.number-iterator.next));
  going : Going l.tables l.self.index l.self.here l.self.ran l.c (row_from l.row l.size) (end_below l.c.count (2 ^ l.size)) l.fn.dead l.fn.path l.dead l.path
      (end_of (numbers_from l.number-iterator.next));
}
