-- Bytes to numbers (document 01, "Job file and table file"), and millimetres to centimetres (document 02, request 4). Assumes nothing.
use Rattle.std.specs.Prelude.{◌≡◌, ◌≢◌, List, [], ◌∷◌, ℕ, suc, ◌+◌, ◌-◌, ◌*◌, ◌/◌, ◌%◌, ◌≤◌, ◌<◌, ltb, Bool, ◌&&◌, ℤ, pos, negsuc, neg_ℤ, nat_abs, ◌-ℤ◌, ◌*ℤ◌}
use Rattle.std.specs.Int.Signed.{le_z}
use Rattle.rules.specs.Basics.{choose}

-- a byte string: every entry is a byte
abbrev pub Bytes : List ℕ → Type 0
Bytes [] = Unit {0}
Bytes (x ∷ xs) = (x < 256) × Bytes xs

-- "two-byte numbers have the low byte first"
unfoldable pub word : ℕ → ℕ → ℕ
word lo hi = lo + 256 * hi

-- the two bytes of a number
unfoldable pub low : ℕ → ℕ
low w = w % 256

unfoldable pub high : ℕ → ℕ
high w = w / 256

-- both, "the low byte first"
abbrev pub word_bytes : ℕ → List ℕ
word_bytes w = low w ∷ high w ∷ []

-- "signed ones in two's complement": the signed number that a two-byte number stands for, and back
unfoldable pub signed : ℕ → ℤ
signed w = choose (ltb w 32768) (pos w) (negsuc (65535 - w))

unfoldable pub unsigned : ℤ → ℕ
unsigned (pos m) = m
unsigned (negsuc m) = 65535 - m

-- the signed numbers that two bytes hold
abbrev pub InRange : ℤ → Type 0
InRange (pos m) = m < 32768
InRange (negsuc m) = m < 32768

-- the two signed numbers are the same
unfoldable pub eqℤ : ℤ → ℤ → Bool
eqℤ a b = le_z a b && le_z b a

-- ---- millimetres to centimetres

-- the rounding error: how many millimetres lie between z millimetres and c centimetres
unfoldable pub rounding_error : ℤ → ℤ → ℕ
rounding_error z c = nat_abs (z -ℤ pos 10 *ℤ c)

-- "Millimetres become the nearest centimetre" (document 01), and "an exact half centimetre" goes "to the even neighbour" (document 02, request 4):
-- no d is nearer to z than c, and where another d is as near, c is even
pub record RoundsTo (z c : ℤ) : Type 0 where
  pub nearest : (d : ℤ) → rounding_error z c ≤ rounding_error z d
  pub even : (d : ℤ) → d ≢ c → rounding_error z d ≡ rounding_error z c → nat_abs c % 2 ≡ 0

-- the same by computing (law `rounds-exactly`), of m millimetres from zero up: less than a half goes down, more goes up, a half to the even neighbour
unfoldable pub round_half_even : ℕ → ℕ
round_half_even m = choose (ltb (m % 10) 5) (m / 10) (choose (ltb 5 (m % 10)) (m / 10 + 1) (m / 10 + m / 10 % 2))

-- "25 millimetres gives 2, 35 gives 4, -25 gives -2, 15 still gives 2"
unfoldable pub centimetres : ℤ → ℤ
centimetres (pos m) = pos (round_half_even m)
centimetres (negsuc m) = neg_ℤ (pos (round_half_even (suc m)))
