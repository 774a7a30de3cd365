-- A level's two bytes, rounded: the rules' centimetres of the signed number they stand for. Assumes nothing.
use Rattle.std.specs.Prelude.{◌≡◌, refl, Bool, true, false, ℕ, zero, suc, ◌+◌, ◌-◌, ◌*◌, ◌/◌, ◌%◌, ◌≤◌, ◌<◌, T, ltb, pos, negsuc, neg_ℤ}
use native.Mathlib.Omega.{arith}
use Rattle.std.proofs.Common.{ltb→lt, lt→ltb}
use Rattle.rules.specs.Basics.{choose}
use Rattle.rules.specs.Numbers.{signed, unsigned, round_half_even, centimetres}
use Rattle.laws.specs.Tests.{tests, by-choice}
use Rattle.laws.specs.Rounding.{rounded-low}

-- m rounds to c, if c is the lower neighbour below a half, the upper one above it, and the even one at it
pub by-rest : (m c : ℕ) → (m % 10 < 5 → c ≡ m / 10) → (5 < m % 10 → c ≡ m / 10 + 1) → (m % 10 ≡ 5 → c ≡ m / 10 + m / 10 % 2) → c ≡ round_half_even m
unfolding round_half_even
by-rest m c down up half =
    by-choice (λ (k : ℕ). c ≡ k) (ltb (m % 10) 5) (λ t. down (simp tests at t)) (λ n. let h = simp tests at n in
    by-choice (λ (k : ℕ). c ≡ k) (ltb 5 (m % 10)) (λ t. up (simp tests at t)) (λ q. let k = simp tests at q in half (omega arith)))

-- minus a number, modulo 65,536: up to 32,768 the two bytes that stand for it
unfoldable pub twos_complement : ℕ → ℕ
twos_complement c = (65536 - c % 65536) % 65536

-- in two's complement, before and after
unfoldable pub rounded : ℕ → ℕ
rounded w = unsigned (centimetres (signed w))

-- of a number from zero up
pub rounded-above : (w : ℕ) → w < 32768 → rounded w ≡ round_half_even w
unfolding rounded unsigned centimetres signed choose
rounded-above w h = go (ltb w 32768) (lt→ltb w 32768 h)
  where
    go : (b : Bool) → T b → unsigned (centimetres (choose b (pos w) (negsuc (65535 - w)))) ≡ round_half_even w
    go true t = refl
    go false t = elim t [ ]

-- and of one below zero
pub rounded-below : (w : ℕ) → 32768 ≤ w → w < 65536 → rounded w ≡ twos_complement (round_half_even (65536 - w))
unfolding rounded unsigned centimetres signed choose
rounded-below w h l = go (ltb w 32768) (ltb→lt w 32768)
  where
    down : (c : ℕ) → 10 * c ≤ 65536 - w + 5 → unsigned (neg_ℤ (pos c)) ≡ twos_complement c
    down zero k = unfold twos_complement in omega arith
    down (suc c) k = unfold twos_complement in omega arith

    go : (b : Bool) → (T b → w < 32768) → unsigned (centimetres (choose b (pos w) (negsuc (65535 - w)))) ≡ twos_complement (round_half_even (65536 - w))
    go true f = absurd (omega (arith, f tt))
    go false f = let e : suc (65535 - w) ≡ 65536 - w = omega arith in rw e (down (round_half_even (65536 - w)) (rounded-low (65536 - w)))
