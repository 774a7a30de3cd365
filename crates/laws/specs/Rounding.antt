-- Millimetres to centimetres: the rule in words and by computing are the same (document 02, request 4). Assumes nothing.
use Rattle.std.specs.Prelude.{◌≡◌, refl, ◌↔◌, ◌⊎◌, ◌≢◌, Bool, true, false, not, cond, ℕ, zero, suc, ◌+◌, ◌-◌, ◌*◌, ◌/◌, ◌%◌, ◌≤◌, ◌<◌, T, ltb, ℤ, pos, negsuc, neg_ℤ, nat_abs, ◌+ℤ◌, ◌*ℤ◌}
use Rattle.std.proofs.Common.{sym, ap, ◌∙◌, inl, inr, arith, ltb→lt, nltb→le}
use Rattle.std.proofs.Math.Decide.{ℕ_discrete}
use Rattle.std.proofs.Math.IntN.{neg_ℤ-neg_ℤ, neg_ℤ-+ℤ}
use Rattle.rules.specs.Basics.{choose}
use Rattle.rules.specs.Numbers.{InRange, rounding_error, RoundsTo, round_half_even, centimetres}
use Rattle.laws.specs.Tests.{tests, by-choice}

-- ---- the rounding error

abs-minus : (k : ℤ) → nat_abs (neg_ℤ k) ≡ nat_abs k
abs-minus (pos zero) = refl
abs-minus (pos (suc k)) = refl
abs-minus (negsuc k) = refl

difference : (m k : ℕ) → nat_abs (pos m +ℤ neg_ℤ (pos k)) ≡ (m - k) + (k - m)
difference m zero = omega arith
difference m (suc k) = go (ltb m (suc k)) (ltb→lt m (suc k)) (nltb→le m (suc k))
  where
    go : (b : Bool) → (T b → m < suc k) → (T (not b) → suc k ≤ m) → nat_abs (cond b (negsuc (suc k - suc m)) (pos (m - suc k))) ≡ (m - suc k) + (suc k - m)
    go true f g = let h = f tt in omega arith
    go false f g = let h = g tt in omega arith

-- of m millimetres from zero up, with centimetres from zero up and with centimetres below it
error-above : (m c : ℕ) → rounding_error (pos m) (pos c) ≡ (m - 10 * c) + (10 * c - m)
unfolding rounding_error
error-above m c = difference m (10 * c)

error-below : (m c : ℕ) → rounding_error (pos m) (negsuc c) ≡ m + 10 * suc c
unfolding rounding_error
error-below m c = ap (λ (k : ℤ). nat_abs (pos m +ℤ k)) (neg_ℤ-neg_ℤ (pos (10 * suc c)))

-- it is the same with both signs changed
error-minus : (z c : ℤ) → rounding_error (neg_ℤ z) (neg_ℤ c) ≡ rounding_error z c
unfolding rounding_error
error-minus z c =
    ap (λ (k : ℤ). nat_abs (neg_ℤ z +ℤ neg_ℤ k)) (ten-minus c) ∙ ap nat_abs (sym (neg_ℤ-+ℤ z (neg_ℤ (pos 10 *ℤ c)))) ∙ abs-minus (z +ℤ neg_ℤ (pos 10 *ℤ c))
  where
    ten-minus : (c : ℤ) → pos 10 *ℤ neg_ℤ c ≡ neg_ℤ (pos 10 *ℤ c)
    ten-minus (pos zero) = refl
    ten-minus (pos (suc c)) = refl
    ten-minus (negsuc c) = sym (neg_ℤ-neg_ℤ (pos (10 * suc c)))

-- ---- m millimetres from zero up

-- c is even, or c centimetres are less than half a centimetre away from m millimetres
abbrev EvenOrNearer : ℕ → ℕ → Type 0
EvenOrNearer m c = (c % 2 ≡ 0) ⊎ ((10 * c < m + 5) × (m < 10 * c + 5))

-- they are at most half a centimetre away, and less than that unless c is even
record Near (m c : ℕ) : Type 0 where
  low : 10 * c ≤ m + 5
  high : m ≤ 10 * c + 5
  even : EvenOrNearer m c

near : (m : ℕ) → Near m (round_half_even m)
unfolding round_half_even
near m =
    by-choice (Near m) (ltb (m % 10) 5)
    (λ t. let less = simp tests at t in record { low = omega arith; high = omega arith; even = inr (omega arith) })
    (λ n. let no_less = simp tests at n in by-choice (Near m) (ltb 5 (m % 10))
    (λ t. let more = simp tests at t in record { low = omega arith; high = omega arith; even = inr (omega arith) })
    (λ n. let no_more = simp tests at n in record { low = omega arith; high = omega arith; even = inl (omega arith) }))

-- so ten times the centimetres are at most the millimetres and 5
pub rounded-low : (m : ℕ) → 10 * round_half_even m ≤ m + 5
rounded-low m = (near m).low

module _ (m c : ℕ) (w : Near m c) where
  above-rounds : RoundsTo (pos m) (pos c)
  above-rounds = record { nearest = nearest; even = λ d n e. even d w.even n e }
    where
      nearest : (d : ℤ) → rounding_error (pos m) (pos c) ≤ rounding_error (pos m) d
      nearest (pos d) = rw (error-above m c, error-above m d) (omega (arith, w.low, w.high))
      nearest (negsuc d) = rw (error-above m c, error-below m d) (omega (arith, w.low, w.high))

      even : (d : ℤ) → EvenOrNearer m c → d ≢ pos c → rounding_error (pos m) d ≡ rounding_error (pos m) (pos c) → c % 2 ≡ 0
      even d (inl z) n e = z
      even (pos d) (inr h) n e = absurd (n (ap pos (let k = sym (error-above m d) ∙ e ∙ error-above m c in omega (arith, k, h))))
      even (negsuc d) (inr h) n e = absurd (let k = sym (error-below m d) ∙ e ∙ error-above m c in omega (arith, k, h))

  -- no other c rounds it
  above-only : (k : ℤ) → RoundsTo (pos m) k → k ≡ pos c
  above-only (negsuc k) r = absurd (omega (arith, error-below m k, error-above m c, r.nearest (pos c), w.low, w.high))
  above-only (pos k) r = go (ℕ_discrete k c) w.even
    where
      same : (m - 10 * k) + (10 * k - m) ≡ (m - 10 * c) + (10 * c - m)
      same = omega (arith, error-above m k, error-above m c, r.nearest (pos c), above-rounds.nearest (pos k))

      errors : rounding_error (pos m) (pos c) ≡ rounding_error (pos m) (pos k)
      errors = error-above m c ∙ sym same ∙ sym (error-above m k)

      go : Dec (k ≡ c) → EvenOrNearer m c → pos k ≡ pos c
      go (yes e) _ = ap pos e
      go (no n) (inr h) = absurd (n (omega (arith, same, h)))
      go (no n) (inl z) =
          let close : (k ≤ c + 1) × (c ≤ k + 1) = omega (arith, same, w.low, w.high) in
          absurd (omega (arith, r.even (pos c) (λ e. n (sym (ap nat_abs e))) errors, z, close, n))

  -- the rule before gave the same, but for a half whose lower neighbour is even
  away-same : ¬ (m % 20 ≡ 5) → (m + 5) / 10 ≡ c
  away-same n = go w.even
    where
      go : EvenOrNearer m c → (m + 5) / 10 ≡ c
      go (inl z) = omega (arith, w.low, w.high, z, n)
      go (inr h) = omega (arith, h)

  away-other : m % 20 ≡ 5 → (m + 5) / 10 ≡ c → ⊥
  away-other e k = go w.even
    where
      go : EvenOrNearer m c → ⊥
      go (inl z) = let h : c / 2 ≡ m / 20 = omega (arith, w.low, w.high, z, e) in omega (arith, h, z, e, k)
      go (inr h) = omega (arith, h, e, k)

-- ---- any level

rounds-minus : (z c : ℤ) → RoundsTo z c → RoundsTo (neg_ℤ z) (neg_ℤ c)
rounds-minus z c r = record {
  nearest = λ d. rw (error-minus z c, other d) (r.nearest (neg_ℤ d));
  even = λ d n e. ap (λ (k : ℕ). k % 2) (abs-minus c) ∙ r.even (neg_ℤ d) (λ p. n (sym (neg_ℤ-neg_ℤ d) ∙ ap neg_ℤ p)) (sym (other d) ∙ e ∙ error-minus z c);
}
  where
    other : (d : ℤ) → rounding_error (neg_ℤ z) d ≡ rounding_error z (neg_ℤ d)
    other d = ap (rounding_error (neg_ℤ z)) (sym (neg_ℤ-neg_ℤ d)) ∙ error-minus z (neg_ℤ d)

-- z rounds to c, in words, exactly where c is what is computed
pub rounds-exactly : (z c : ℤ) → RoundsTo z c ↔ (c ≡ centimetres z)
unfolding centimetres
rounds-exactly (pos m) c = (above-only m (round_half_even m) (near m) c, λ e. rw e (above-rounds m (round_half_even m) (near m)))
rounds-exactly (negsuc m) c = (
  λ r. sym (neg_ℤ-neg_ℤ c) ∙ ap neg_ℤ (above-only (suc m) (round_half_even (suc m)) (near (suc m)) (neg_ℤ c) (rounds-minus (negsuc m) c r)),
  λ e. rw e (rounds-minus (pos (suc m)) (pos (round_half_even (suc m))) (above-rounds (suc m) (round_half_even (suc m)) (near (suc m)))),
)

-- minus z gives minus what z gives
pub centimetres-minus : (z : ℤ) → centimetres (neg_ℤ z) ≡ neg_ℤ (centimetres z)
unfolding centimetres round_half_even choose
centimetres-minus (pos zero) = refl
centimetres-minus (pos (suc m)) = refl
centimetres-minus (negsuc m) = sym (neg_ℤ-neg_ℤ (pos (round_half_even (suc m))))

-- two bytes hold the centimetres of what two bytes hold
pub centimetres-in : (z : ℤ) → InRange z → InRange (centimetres z)
unfolding centimetres
centimetres-in (pos m) h = omega (arith, rounded-low m)
centimetres-in (negsuc m) h = go (round_half_even (suc m)) (rounded-low (suc m))
  where
    go : (c : ℕ) → 10 * c ≤ suc m + 5 → InRange (neg_ℤ (pos c))
    go zero e = omega arith
    go (suc c) e = omega arith

-- ---- the rule before

-- "Millimetres become the nearest centimetre; a half goes away from zero" (document 01)
unfoldable pub half_away : ℤ → ℤ
half_away (pos m) = pos ((m + 5) / 10)
half_away (negsuc m) = neg_ℤ (pos ((suc m + 5) / 10))

-- it gave the same, but for a half whose neighbour toward zero is even
pub half-away-same : (z : ℤ) → (half_away z ≡ centimetres z) ↔ (¬ (nat_abs z % 20 ≡ 5))
unfolding half_away centimetres
half-away-same (pos m) = (λ e k. away-other m (round_half_even m) (near m) k (ap nat_abs e), λ n. ap pos (away-same m (round_half_even m) (near m) n))
half-away-same (negsuc m) = (
  λ e k. away-other (suc m) (round_half_even (suc m)) (near (suc m)) k
      (sym (abs-minus (pos ((suc m + 5) / 10))) ∙ ap nat_abs e ∙ abs-minus (pos (round_half_even (suc m)))),
  λ n. ap (λ (c : ℕ). neg_ℤ (pos c)) (away-same (suc m) (round_half_even (suc m)) (near (suc m)) n),
)
