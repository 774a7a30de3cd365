-- The circle test on numbers: what its functions give. Assumes nothing.
use Rattle.std.specs.Prelude.{Bool, not, ◌&&◌, ℕ, zero, suc}
use Rattle.rules.specs.Basics.{all, range}
use Rattle.rules.specs.SmallGates.{bit, need_bit}
use Rattle.laws.specs.SmallGates.{of_bits}

-- job i needs giver g, and g is not marked; the marks are the bits of v
unfoldable pub waits_on : ℕ → ℕ → ℕ → ℕ → ℕ → Bool
waits_on n m v i g = bit m (need_bit n (g, i)) && not (bit v g)

-- all givers of job i are marked
unfoldable pub is_ready : ℕ → ℕ → ℕ → ℕ → Bool
is_ready n m v i = all (λ g. not (waits_on n m v i g)) (range n 0)

-- a round: the jobs whose givers are all marked
unfoldable pub marked_bits : ℕ → ℕ → ℕ → ℕ
marked_bits n m v = of_bits (is_ready n m v) n 0

-- the jobs that are marked after so many rounds
unfoldable pub marks : ℕ → ℕ → ℕ → ℕ
marks n m zero = 0
marks n m (suc f) = marked_bits n m (marks n m f)
