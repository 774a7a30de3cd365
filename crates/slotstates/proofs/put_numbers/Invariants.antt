use Rattle.std.proofs.Common.{◌*◌}
use Rattle.laws.specs.Writing.{WrittenSoFar}
use Rattle.slotstates.specs.Ranks.{times}
use Rattle.slotstates.specs.Slots.{slot_bytes}
use Rattle.slotstates.proofs.put_numbers.Given as goal

abbrev pub invariant-loop-slot : goal.invariant-loop-slot
invariant-loop-slot l = WrittenSoFar (slot_bytes (times l.starts l.release l.tail l.jobs l.limit)) l.slots 0 l.initial.states l.slot (2 * l.slot) l.states
