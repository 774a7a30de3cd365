-- The lowest place that a set leaves, from the members of what it leaves. Assumes nothing.
use Rattle.std.proofs.Common.{◌≡◌, refl, sym, Bool, true, false, ℕ, ◌^◌, ◌<◌, List, [], ◌∷◌}
use Rattle.rules.specs.Sizes.{max_width}
use Rattle.jobset.specs.declared.Set.{Set}
use Rattle.jobset.specs.Sets.{members, is_empty, lowest}
use Rattle.jobset.specs.Members.{turn, end}
use Rattle.places.specs.Assign.{Lowest}
use Rattle.seats.specs.Bytes.{free_in, free-bits, none_free, some-free}

-- a set with a first member has it as its lowest
first-lowest : (S : Set) (i : ℕ) (l : List ℕ) → S.bits < 2 ^ 64 → members S ≡ i ∷ l → (i ≡ lowest S) × (is_empty S ≡ false)
first-lowest S i l h e = go (is_empty S) refl
  where
    go : (b : Bool) → b ≡ is_empty S → (i ≡ lowest S) × (is_empty S ≡ false)
    go true z = let n = (end S true z refl).no-members in cc
    go false z = let f = (turn S false (lowest S) h z refl refl).first in ((cc), sym z)

-- a set with no member is empty
none-empty : (S : Set) → S.bits < 2 ^ 64 → members S ≡ [] → is_empty S ≡ true
none-empty S h e = go (is_empty S) refl
  where
    go : (b : Bool) → b ≡ is_empty S → is_empty S ≡ true
    go true z = sym z
    go false z = let f = (turn S false (lowest S) h z refl refl).first in cc

-- the places that S leaves have a first: it is the lowest
pub first-free : (S : Set) (i : ℕ) (l : List ℕ) → members (free_in S) ≡ i ∷ l → Lowest S i × (i < max_width)
first-free S i l e = let f = first-lowest (free_in S) i l (free-bits S) e in some-free S i f.0 f.1

-- they have none: the lowest is 8
pub no-free : (S : Set) → members (free_in S) ≡ [] → Lowest S max_width
no-free S e = none_free S (none-empty (free_in S) (free-bits S) e)
