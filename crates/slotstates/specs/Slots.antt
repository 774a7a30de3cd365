-- The numbers of all slots, as bytes. Assumes nothing.
use Rattle.std.specs.Prelude.{◌≡◌, refl, List, ℕ, ◌*◌, length}
use Rattle.std.proofs.Common.{ap, ◌∙◌}
use Rattle.rules.specs.Basics.{range, joined}
use Rattle.rules.specs.Numbers.{word_bytes}
use Rattle.laws.specs.Counting.{length-range}
use Rattle.laws.specs.Writing.{length-joined}
use Rattle.threes.specs.Threes.{number_of}
use Rattle.slotstates.specs.Ranks.{Times, ranks_in}

-- the number of slot s: its two bytes
unfoldable pub slot_bytes : Times → ℕ → List ℕ
slot_bytes z s = word_bytes (number_of (ranks_in z s).begun (ranks_in z s).running)

-- the bytes of so many slots
unfoldable pub slots_bytes : Times → ℕ → List ℕ
slots_bytes z slots = joined (slot_bytes z) (range slots 0)

two_bytes : (z : Times) (s : ℕ) → length (slot_bytes z s) ≡ 2
unfolding slot_bytes
two_bytes z s = refl

pub bytes_count : (z : Times) (slots : ℕ) → length (slots_bytes z slots) ≡ 2 * slots
unfolding slots_bytes
bytes_count z slots = length-joined (slot_bytes z) 2 (two_bytes z) (range slots 0) ∙ ap (2 *◌) (length-range slots 0)
