-- The job file of a number: what its functions write. Assumes nothing.
use Rattle.std.specs.Prelude.{List, [], ◌∷◌, ◌++◌, ℕ, ◌/◌, ◌%◌}
use Rattle.rules.specs.Basics.{choose}
use Rattle.rules.specs.Fields.{field}
use Rattle.rules.specs.SmallGates.{bit, need_field}

-- header and limit
unfoldable pub head_bytes : ℕ → List ℕ
head_bytes n = field 1 (1 ∷ []) ++ field 2 (n ∷ [])

-- what is written for a place: its need, if there is one
unfoldable pub place_bytes : ℕ → ℕ → ℕ → List ℕ
place_bytes n m j = choose (bit m j) (need_field (j / n, j % n)) []
