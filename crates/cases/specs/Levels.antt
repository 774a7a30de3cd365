-- The levels that document 02 gives for request 4, and others, by computing. Assumes nothing.
use Rattle.std.specs.Prelude.{◌≡◌, refl, [], ◌∷◌, map, pos, neg_ℤ}
use Rattle.rules.specs.Numbers.{centimetres}
use Rattle.cases.specs.Computed.{rounded_level}

-- a half goes to the even neighbour, of negative levels too
pub halves-rounded : map centimetres (pos 25 ∷ pos 35 ∷ neg_ℤ (pos 25) ∷ pos 15 ∷ neg_ℤ (pos 15) ∷ pos 5 ∷ neg_ℤ (pos 5) ∷ pos 45 ∷ [])
    ≡ pos 2 ∷ pos 4 ∷ neg_ℤ (pos 2) ∷ pos 2 ∷ neg_ℤ (pos 2) ∷ pos 0 ∷ pos 0 ∷ pos 4 ∷ []
unfolding rounded_level
halves-rounded = refl

-- what is less than a half goes toward zero, what is more goes away from it
pub others-rounded : map centimetres (pos 4 ∷ neg_ℤ (pos 4) ∷ pos 24 ∷ pos 26 ∷ neg_ℤ (pos 26) ∷ []) ≡ pos 0 ∷ pos 0 ∷ pos 2 ∷ pos 3 ∷ neg_ℤ (pos 3) ∷ []
unfolding rounded_level
others-rounded = refl
