-- When a test made of tests is true. Assumes nothing.
use Rattle.std.specs.Prelude.{◌≡◌, refl, Bool, true, false, not, ◌||◌, ◌↔◌, ◌⊎◌}
use Rattle.std.proofs.Common.{sym, ◌∙◌, inl, inr}
use Rattle.std.proofs.lemmas.Bool.{false≢true}

-- `or` is true where one of the two is (for `and`: and-eq-true-iff of mathlib)
pub or-true-iff : (a b : Bool) → ((a || b) ≡ true) ↔ ((a ≡ true) ⊎ (b ≡ true))
or-true-iff true b = (λ p. inl refl, λ w. refl)
or-true-iff false b = (λ p. inr p, right)
  where
    right : (false ≡ true) ⊎ (b ≡ true) → b ≡ true
    right (inl p) = absurd (false≢true p)
    right (inr p) = p

-- `not` is true where its test is false
pub not-true-iff : (b : Bool) → (not b ≡ true) ↔ (b ≡ false)
not-true-iff true = (sym, sym)
not-true-iff false = (λ p. refl, λ p. refl)

-- two tests of which each is true where the other is are equal
pub bool-ext : (a b : Bool) → (a ≡ true → b ≡ true) → (b ≡ true → a ≡ true) → a ≡ b
bool-ext true b f g = sym (f refl)
bool-ext false true f g = g refl
bool-ext false false f g = refl

-- a test that is not true is false, and none is both
pub absent : (b : Bool) → (b ≡ true → ⊥) → b ≡ false
absent true f = absurd (f refl)
absent false f = refl

pub present : (b : Bool) → b ≡ true → b ≡ false → ⊥
present b p q = false≢true (sym q ∙ p)
