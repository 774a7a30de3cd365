-- The number of a state of a slot in base three, by a table of 256 entries: the entry for a byte is the sum of 3 ^ k over its set bits k
-- (request 11). With it the number of a state is the entry for done plus the entry for ran. Assumes nothing.
-- More of what holds: proofs/Threes.antt.
use Rattle.std.specs.Prelude.{◌≡◌, Bool, T, eqb}
use Rattle.std.proofs.Math.Bool.{true}
use Prim.Native.Nat.{ℕ, zero, suc, ◌+◌, ◌^◌, ◌<◌}
use Rattle.rules.specs.Basics.{choose, all, range}
use Rattle.laws.specs.Tests.{T-all, T-eqb}
use Rattle.laws.specs.Counting.{range-below}
use Rattle.jobset.specs.declared.Set.{Set}
use Rattle.jobset.specs.Sets.{member}

-- ---- the sum of 3 ^ k over the members k of a set

-- over those below w
unfoldable pub threes_to : ℕ → Set → ℕ
threes_to zero S = 0
threes_to (suc k) S = threes_to k S + choose (member S k) (3 ^ k) 0

-- over the eight places of a slot
unfoldable pub threes : Set → ℕ
threes S = threes_to 8 S

-- the number of a state: done by the end of the slot, and ran in it
unfoldable pub number_of : Set → Set → ℕ
number_of done ran = threes done + threes ran

-- ---- the table of 256 numbers

-- the entry for a byte
abbrev pub entry : ℕ → ℕ
entry b = threes (record { bits = b })

-- a table passes this test: one test over the whole ..
unfoldable pub is_table : (ℕ → ℕ) → Bool
is_table f = all (λ b. eqb (f b) (entry b)) (range 256 0)

-- .. and the law that carries it to each entry
pub table-entry : (f : ℕ → ℕ) → T (is_table f) → (b : ℕ) → b < 256 → f b ≡ entry b
unfolding is_table
table-entry f t b l = (T-eqb (f b) (entry b)).0 ((T-all (λ b. eqb (f b) (entry b)) (range 256 0)).0 t b ((range-below 256 b).1 l))

-- ---- one-to-one

-- the set has no place but the eight of a slot
abbrev pub Eight : Set → Type 0
Eight S = (p : ℕ) → member S p ≡ true → p < 8
