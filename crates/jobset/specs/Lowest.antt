-- The lowest member of a set. Assumes nothing.
use Rattle.std.specs.Prelude.{◌≡◌, refl, true, false, ℕ, zero, suc, ◌/◌, ◌%◌, ◌^◌, ◌<◌, ◌≤◌, eqb}
use Rattle.std.proofs.Common.{sym, ap, ◌∙◌, lt_of_lt_of_le, arith, pow_mono}
use Rattle.std.proofs.Math.Nat.{div-eq_of_lt}
use Rattle.std.proofs.Math.Decide.{dec_lt}
use Rattle.std.proofs.lemmas.Bool.{eqb-false}
use Rattle.std.specs.Int.Count.{count_trailing_zeros, under}
use Rattle.jobset.specs.declared.Set.{Set}
use Rattle.jobset.specs.Sets.{digit, member, is_empty, lowest}
use Rattle.jobset.specs.Digits.{digit-zero, digit-ext, digit-half}

-- below the number of trailing zeros each digit is 0
zeros : (k n j : ℕ) → j < count_trailing_zeros k n → digit n j ≡ 0
unfolding count_trailing_zeros digit
zeros zero n j h = absurd (omega arith)
zeros (suc k) n j h = go (λ i l. zeros k (n / 2) i l) (n % 2) refl j h
  where
    go : ((i : ℕ) → i < count_trailing_zeros k (n / 2) → n / 2 / 2 ^ i % 2 ≡ 0) → (d : ℕ) → n % 2 ≡ d
        → (j : ℕ) → j < under d (count_trailing_zeros k (n / 2)) → n / 2 ^ j % 2 ≡ 0
    go ih zero e zero h = omega arith
    go ih zero e (suc j) h = sym (digit-half n j) ∙ ih j (omega arith)
    go ih (suc d) e j h = absurd (omega arith)

-- at the number of trailing zeros the digit is 1
first_one : (k n : ℕ) → count_trailing_zeros k n < k → digit n (count_trailing_zeros k n) ≡ 1
unfolding count_trailing_zeros digit
first_one zero n h = absurd (omega arith)
first_one (suc k) n h = go (λ l. first_one k (n / 2) l) (n % 2) refl h
  where
    go : (count_trailing_zeros k (n / 2) < k → n / 2 / 2 ^ count_trailing_zeros k (n / 2) % 2 ≡ 1) → (d : ℕ) → n % 2 ≡ d
        → under d (count_trailing_zeros k (n / 2)) < suc k → n / 2 ^ under d (count_trailing_zeros k (n / 2)) % 2 ≡ 1
    go ih zero e h = sym (digit-half n (count_trailing_zeros k (n / 2))) ∙ ih (omega arith)
    go ih (suc d) e h = omega arith

-- a number below 2 ^ k that is not 0 has a digit below k that is 1
some_one : (k n : ℕ) → n < 2 ^ k → (n ≡ 0 → ⊥) → count_trailing_zeros k n < k
unfolding digit
some_one k n b z = go (dec_lt (count_trailing_zeros k n) k)
  where
    none : k ≤ count_trailing_zeros k n → (j : ℕ) → Dec (j < k) → n / 2 ^ j % 2 ≡ 0 / 2 ^ j % 2
    none h j (yes l) = zeros k n j (omega arith) ∙ sym (digit-zero j)
    none h j (no m) = ap (λ (x : ℕ). x % 2) (div-eq_of_lt (lt_of_lt_of_le b (pow_mono {i = k} {j = j} (omega arith)))) ∙ sym (digit-zero j)

    go : Dec (count_trailing_zeros k n < k) → count_trailing_zeros k n < k
    go (yes l) = l
    go (no m) = absurd (z (digit-ext n 0 (λ j. none (omega arith) j (dec_lt j k))))

-- no place below the lowest member is a member
pub below-lowest : (s : Set) (j : ℕ) → j < lowest s → member s j ≡ false
unfolding member lowest
below-lowest s j h = rw (zeros 64 s.bits j h)

-- of a set that is not empty the lowest member is one
pub lowest-member : (s : Set) → s.bits < 2 ^ 64 → is_empty s ≡ false → (lowest s < 64) × (member s (lowest s) ≡ true)
unfolding member lowest is_empty
lowest-member s b e =
    let l = some_one 64 s.bits b (eqb-false s.bits 0 e) in
    (l, ap (λ (d : ℕ). eqb d 1) (first_one 64 s.bits l))
