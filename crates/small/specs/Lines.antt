-- The lines of the small gates: what their functions write. Assumes nothing.
use Rattle.std.specs.Prelude.{Bool, not, List, [], ◌∷◌, ℕ, ◌+◌, ◌*◌, ◌/◌, length, eqb}
use Rattle.rules.specs.Basics.{choose, at, all, range}
use Rattle.rules.specs.SmallGates.{needs_of, gateb, gate_file, fewest, planned_slots, or_zero}

-- "the planner with limit n must give the same": the planner's slots, where they are the fewest; else 0
unfoldable pub agreed_slots : ℕ → ℕ → ℕ
agreed_slots planned least = choose (eqb planned least) planned 0

-- those of a number
unfoldable pub line_slots : ℕ → ℕ → ℕ
line_slots n m = agreed_slots (or_zero (planned_slots (gate_file n m))) (or_zero (fewest n (needs_of n m)))

-- what is written for a number: its line, if it stands for needs without a circle
unfoldable pub line_of : ℕ → ℕ → List ℕ
line_of n m = choose (gateb n m) (n ∷ m ∷ line_slots n m ∷ []) []

-- no line of a list, three entries each, has 0 for its slots
unfoldable pub all_agreed : List ℕ → Bool
all_agreed l = all (λ i. not (eqb (at l (3 * i + 2)) 0)) (range (length l / 3) 0)
