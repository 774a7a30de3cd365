-- A slot gathered as a code: twice the latest slot that was met, and one more where it was met twice. Assumes nothing.
use Rattle.std.specs.Prelude.{List, [], ◌∷◌, ℕ, ◌+◌, ◌*◌, ◌/◌, ◌%◌, ltb, eqb}
use Rattle.rules.specs.Basics.{choose}

-- slots are below this: twice a slot, and one more, is a number of two bytes
abbrev pub slot_bound : ℕ
slot_bound = 32767

-- the code after one slot more
unfoldable pub raised : ℕ → ℕ → ℕ
raised code slot = choose (ltb (code / 2) slot) (2 * slot) (choose (eqb (code / 2) slot) (2 * slot + 1) code)

-- the slot behind those that a code has met: the latest, and one more where it was met twice
unfoldable pub behind : ℕ → ℕ
behind code = code / 2 + code % 2

-- the code after the slots r x + 1 of some jobs x, one after the other
unfoldable pub raised_over : (ℕ → ℕ) → ℕ → List ℕ → ℕ
raised_over r code [] = code
raised_over r code (x ∷ xs) = raised_over r (raised code (r x + 1)) xs
