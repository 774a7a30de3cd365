-- Sets of places, one binary digit of a number each: membership, and what each function of the crate gives. Assumes nothing.
use Rattle.std.specs.Prelude.{◌≡◌, Bool, true, false, List, [], ◌∷◌, ℕ, zero, suc, ◌-◌, ◌/◌, ◌%◌, ◌^◌, eqb}
use Rattle.std.specs.Int.Bits.{bit_and, bit_or, bit_xor}
use Rattle.std.specs.Int.Count.{ones, count_trailing_zeros}
use Rattle.rules.specs.Basics.{choose, at}
use Rattle.jobset.specs.declared.Set.{Set}

-- the binary digit of n at place j
unfoldable pub digit : ℕ → ℕ → ℕ
digit n j = n / 2 ^ j % 2

-- j is a member of s
unfoldable pub member : Set → ℕ → Bool
member s j = eqb (digit s.bits j) 1

-- the set in entry i of an array of sets
abbrev pub set_at : List ℕ → ℕ → Set
set_at l i = record { bits = at l i }

-- the set with no member
abbrev pub empty : Set
empty = record { bits = 0 }

-- the set whose one member is i
unfoldable pub one : ℕ → Set
one i = record { bits = 2 ^ i }

-- the members of s or t
unfoldable pub union : Set → Set → Set
union s t = record { bits = bit_or s.bits t.bits }

-- the members of s and t
unfoldable pub intersection : Set → Set → Set
intersection s t = record { bits = bit_and s.bits t.bits }

-- the members of s that are none of t
unfoldable pub minus : Set → Set → Set
minus s t = record { bits = bit_xor s.bits (bit_and s.bits t.bits) }

-- s and the member i
unfoldable pub with : Set → ℕ → Set
with s i = union s (one i)

-- s but the member i
unfoldable pub without : Set → ℕ → Set
without s i = minus s (one i)

-- every member of s is one of t
unfoldable pub Subset : Set → Set → Type 0
Subset s t = (j : ℕ) → member s j ≡ true → member t j ≡ true

-- the test of Subset
unfoldable pub is_subset : Set → Set → Bool
is_subset s t = eqb (bit_and s.bits t.bits) s.bits

-- s has no member
unfoldable pub is_empty : Set → Bool
is_empty s = eqb s.bits 0

-- s has exactly one member: it is not empty, and the number without its lowest digit is 0
unfoldable pub is_one : Set → Bool
is_one s = choose (is_empty s) false (eqb (bit_and s.bits (s.bits - 1)) 0)

-- the number of members of s (law `size-members`)
unfoldable pub size : Set → ℕ
size s = ones s.bits

-- the lowest member of s, or 64
unfoldable pub lowest : Set → ℕ
lowest s = count_trailing_zeros 64 s.bits

-- of the subset s of t, the subset of t with the next smaller number
unfoldable pub next_below : Set → Set → Set
next_below s t = record { bits = bit_and (s.bits - 1) t.bits }

-- the members of s among the k places from i up, rising
unfoldable pub members_from : ℕ → ℕ → Set → List ℕ
members_from zero i s = []
members_from (suc k) i s =
    let rest = members_from k (suc i) s in
    choose (member s i) (i ∷ rest) rest

-- the members of s, rising
unfoldable pub members : Set → List ℕ
members s = members_from 64 0 s
