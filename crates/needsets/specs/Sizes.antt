-- How large sets of needs of at most four jobs are, as numbers. Assumes nothing.
use Rattle.std.specs.Prelude.{◌≡◌, ℕ, ◌*◌, ◌^◌, ◌%◌, ◌≤◌, ◌<◌}
use Rattle.std.proofs.Common.{◌∙◌, arith, one-mul, mul-le-mul, shl_exact}
use Rattle.std.proofs.Math.Nat.{pow-le-pow_right}

-- ---- powers of two

-- there are at most 65,536 numbers of at most 16 bits
pub power-few : (w : ℕ) → w ≤ 16 → 2 ^ w ≤ 65536
power-few w few = pow-le-pow_right {n = 2} (omega arith) {i = w} {j = 16} few

-- what a shift of 1 gives
pub shifted : (w : ℕ) → w ≤ 16 → (1 * 2 ^ w) % 2 ^ 64 ≡ 2 ^ w
shifted w few = shl_exact 1 w 64 (omega arith) (omega arith) ∙ one-mul (2 ^ w)

-- ---- places of needs

module _ {n : ℕ} (few : n ≤ 4) where
  -- n jobs have at most 16 places
  pub places-few : n * n ≤ 16
  places-few = mul-le-mul few few

  -- the first place of a giver's row is at most 12
  pub row-few : (g : ℕ) → g < n → g * n ≤ 12
  row-few g h = mul-le-mul {n₁ = g} {n₂ = 3} (omega arith) few
