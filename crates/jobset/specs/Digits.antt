-- Laws of one binary digit of a number. Assumes nothing.
use Rattle.std.specs.Prelude.{◌≡◌, refl, ℕ, zero, suc, ◌+◌, ◌-◌, ◌*◌, ◌/◌, ◌%◌, ◌^◌, ◌<◌, min, max}
use Rattle.std.proofs.Common.{sym, ap, ◌∙◌, one-mul, pow-suc, arith, lit<, pow_pos, pow-add, shl_exact, shr-shr}
use Rattle.std.proofs.Math.Decide.{dec_lt}
use Rattle.std.proofs.Math.Nat.{div-eq_of_lt}
use Rattle.std.proofs.Math.Arith.{bin_ind}
use Rattle.std.specs.Int.Bits.{bit_and, bit_or, bit_xor, differ, and_step, or_step, xor_step}
use Rattle.std.proofs.lemmas.Nat.{and_shr, or_shr, xor_shr, shl-shr}
use Rattle.std.proofs.Math.Pow.{pow-lt}
use Rattle.jobset.specs.Sets.{digit}

-- a digit is 0 or 1
pub digit_lt : (n j : ℕ) → digit n j < 2
unfolding digit
digit_lt n j = omega arith

-- what holds of the four pairs of digits holds of the digits of any two numbers
pub digit-cases : (P : ℕ → ℕ → Type 0) → P 0 0 → P 0 1 → P 1 0 → P 1 1 → (a b j : ℕ) → P (digit a j) (digit b j)
digit-cases P p q r s a b j = go (digit a j) (digit b j) (digit_lt a j) (digit_lt b j)
  where
    go : (d e : ℕ) → d < 2 → e < 2 → P d e
    go zero zero h k = p
    go zero (suc zero) h k = q
    go (suc zero) zero h k = r
    go (suc zero) (suc zero) h k = s
    go zero (suc (suc y)) h k = absurd (omega arith)
    go (suc zero) (suc (suc y)) h k = absurd (omega arith)
    go (suc (suc x)) y h k = absurd (omega arith)

-- a digit of what `|`, `&` and `^` give
pub digit_or : (a b j : ℕ) → digit (bit_or a b) j ≡ max (digit a j) (digit b j)
unfolding digit
digit_or a b j = omega (arith, or_shr a b j ∙ or_step (a / 2 ^ j) (b / 2 ^ j))

pub digit_and : (a b j : ℕ) → digit (bit_and a b) j ≡ min (digit a j) (digit b j)
unfolding digit
digit_and a b j = omega (arith, and_shr a b j ∙ and_step (a / 2 ^ j) (b / 2 ^ j))

pub digit-xor : (a b j : ℕ) → digit (bit_xor a b) j ≡ differ (digit a j) (digit b j)
unfolding digit
digit-xor a b j =
    let l : differ (digit a j) (digit b j) < 2 = digit-cases (λ d e. differ d e < 2) (lit< tt) (lit< tt) (lit< tt) (lit< tt) a b j in
    omega (arith, xor_shr a b j ∙ xor_step (a / 2 ^ j) (b / 2 ^ j))

-- every digit of 0 is 0
pub digit-zero : (j : ℕ) → digit 0 j ≡ 0
unfolding digit
digit-zero j = ap (λ (n : ℕ). n % 2) (div-eq_of_lt (pow_pos j))

-- a power of two has the digit 1 at its exponent, and 0 elsewhere
pub digit-pow-same : (i : ℕ) → digit (2 ^ i) i ≡ 1
unfolding digit
digit-pow-same i = ap (λ (n : ℕ). n / 2 ^ i % 2) (sym (one-mul (2 ^ i))) ∙ ap (λ (n : ℕ). n % 2) (shl-shr 1 i)

pub digit-pow-other : (i j : ℕ) → (j ≡ i → ⊥) → digit (2 ^ i) j ≡ 0
unfolding digit
digit-pow-other i j n = go (dec_lt i j)
  where
    go : Dec (i < j) → 2 ^ i / 2 ^ j % 2 ≡ 0
    go (yes l) = ap (λ (n : ℕ). n % 2) (div-eq_of_lt (pow-lt l))
    go (no m) =
        let k : ℕ = i - (j + 1) in
        let e : i ≡ suc k + j = omega arith in
        ap (λ (n : ℕ). 2 ^ n / 2 ^ j % 2) e ∙ ap (λ (n : ℕ). n / 2 ^ j % 2) (pow-add 2 (suc k) j)
        ∙ ap (λ (n : ℕ). n % 2) (shl-shr (2 ^ suc k) j ∙ pow-suc 2 k) ∙ omega arith

-- `1 << i` in a number of w bits is a power of two
pub shifted_one : (w i : ℕ) → i < w → (1 * 2 ^ i) % 2 ^ w ≡ 2 ^ i
shifted_one w i h = shl_exact 1 i w (lit< tt) (omega arith) ∙ one-mul (2 ^ i)

-- half of a number has each digit one place lower
pub digit-half : (n j : ℕ) → digit (n / 2) j ≡ digit n (suc j)
unfolding digit
digit-half n j = ap (λ (m : ℕ). m % 2) (shr-shr n 1 j ∙ ap (λ (k : ℕ). n / 2 ^ k) (omega arith))

-- two numbers with the same digits are equal
pub digit-ext : (a b : ℕ) → ((j : ℕ) → digit a j ≡ digit b j) → a ≡ b
unfolding digit
digit-ext = bin_ind (λ (n : ℕ). (m : ℕ) → ((j : ℕ) → digit n j ≡ digit m j) → n ≡ m) of_zero step
  where
    of_zero : (m : ℕ) → ((j : ℕ) → digit 0 j ≡ digit m j) → 0 ≡ m
    of_zero = bin_ind (λ (m : ℕ). ((j : ℕ) → digit 0 j ≡ digit m j) → 0 ≡ m) (λ f. refl) (λ m ih f.
        let h : 0 ≡ m / 2 = ih (λ j. digit-half 0 j ∙ f (suc j) ∙ sym (digit-half m j)) in
        let l : 0 % 2 ≡ m / 1 % 2 = f 0 in
        omega arith)

    step : (n : ℕ) → ((m : ℕ) → ((j : ℕ) → digit (n / 2) j ≡ digit m j) → n / 2 ≡ m) → (m : ℕ) → ((j : ℕ) → digit n j ≡ digit m j) → n ≡ m
    step n ih m f =
        let h : n / 2 ≡ m / 2 = ih (m / 2) (λ j. digit-half n j ∙ f (suc j) ∙ sym (digit-half m j)) in
        let l : n / 1 % 2 ≡ m / 1 % 2 = f 0 in
        omega arith
