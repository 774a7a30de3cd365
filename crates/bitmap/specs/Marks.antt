-- A bitmap in a list of bytes: mark k is binary digit k % 8 of byte k / 8. Assumes nothing.
use Rattle.std.specs.Prelude.{Bool, List, ◌++◌, ℕ, ◌/◌, ◌%◌, ◌^◌, set, drop, replicate, eqb}
use Rattle.std.specs.Int.Bits.{bit_or}
use Rattle.rules.specs.Basics.{at}
use Rattle.jobset.specs.Sets.{digit}

-- mark k is set
unfoldable pub is_marked : List ℕ → ℕ → Bool
is_marked bytes k = eqb (digit (at bytes (k / 8)) (k % 8)) 1

-- the bytes after mark k is set
unfoldable pub with_mark : List ℕ → ℕ → List ℕ
with_mark bytes k = set bytes (k / 8) (bit_or (at bytes (k / 8)) (2 ^ (k % 8)))

-- the bytes after the first n are cleared
unfoldable pub cleared : ℕ → List ℕ → List ℕ
cleared n bytes = replicate n 0 ++ drop n bytes
