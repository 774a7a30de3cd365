-- The planner's slots and the fewest, each of which may be missing. Assumes nothing.
use Rattle.std.specs.Prelude.{◌≡◌, ℕ, Option, Some, None, unwrap_or}
use Rattle.std.proofs.Math.Option.{Option as Maybe, none, some}
use Rattle.std.proofs.Common.{refl, sym, ◌∙◌}
use Rattle.std.proofs.Math.Decide.{ℕ_discrete}
use Rattle.rules.specs.SmallGates.{or_zero}
use Rattle.needsets.specs.Starts.{as_option}
use Rattle.small.specs.Lines.{agreed_slots}
use Rattle.small.specs.LineLaws.{slots-agree, slots-differ}

-- 0 for none
pub or-zero-is : (o : Maybe ℕ) → unwrap_or (as_option o) 0 ≡ or_zero o
unfolding as_option or_zero
or-zero-is none = refl
or-zero-is (some x) = refl

-- the same, or not
zero-agreed : (s l : ℕ) → (s ≡ l → s ≡ 0) → 0 ≡ agreed_slots s l
zero-agreed s l h = go (ℕ_discrete s l)
  where
    go : Dec (s ≡ l) → 0 ≡ agreed_slots s l
    go (yes e) = sym (h e) ∙ slots-agree s l e
    go (no n) = slots-differ s l n

module _ (planned least : Option ℕ) where
  pub both-same : (s l : ℕ) → planned ≡ Some s → least ≡ Some l → s ≡ l → s ≡ agreed_slots (unwrap_or planned 0) (unwrap_or least 0)
  both-same s l p q e = rw (p, q) (slots-agree s l e)

  pub both-differ : (s l : ℕ) → planned ≡ Some s → least ≡ Some l → (s ≡ l → ⊥) → 0 ≡ agreed_slots (unwrap_or planned 0) (unwrap_or least 0)
  both-differ s l p q n = rw (p, q) (slots-differ s l n)

  -- one of them is missing
  pub no-least : (s : ℕ) → planned ≡ Some s → least ≡ None → 0 ≡ agreed_slots (unwrap_or planned 0) (unwrap_or least 0)
  no-least s p q = rw (p, q) (zero-agreed s 0 (λ e. e))

  pub no-plan : planned ≡ None → 0 ≡ agreed_slots (unwrap_or planned 0) (unwrap_or least 0)
  no-plan p = rw p (zero-agreed 0 (unwrap_or least 0) (λ e. refl))
