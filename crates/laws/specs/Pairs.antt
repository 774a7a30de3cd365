-- Pairs of numbers below n, as numbers below n * n. Assumes nothing.
use Rattle.std.specs.Prelude.{◌≡◌, ℕ, ◌+◌, ◌*◌, ◌/◌, ◌%◌, ◌<◌}
use Rattle.std.proofs.Common.{ap, ◌∙◌, arith, add-zero, mod-eq_of_lt, div-lt_iff_lt-mul}
use Rattle.std.proofs.Math.Nat.{mul-add-div_right, mul-add-mod_self_right, div-eq_of_lt}

module _ (n : ℕ) where
  pub pair-first : (g k : ℕ) → k < n → (g * n + k) / n ≡ g
  pair-first g k h = mul-add-div_right {m = n} (omega arith) g k ∙ ap (λ (x : ℕ). g + x) (div-eq_of_lt h) ∙ add-zero g

  pub pair-second : (g k : ℕ) → k < n → (g * n + k) % n ≡ k
  pair-second g k h = mul-add-mod_self_right g n k ∙ mod-eq_of_lt h

  -- the number of a pair is below c * n where its first is below c
  pub pair-before : (g k c : ℕ) → g < c → k < n → g * n + k < c * n
  pair-before g k c l h = (div-lt_iff_lt-mul {k = n} {x = g * n + k} {y = c} (omega arith)).0 (omega (arith, pair-first g k h))
