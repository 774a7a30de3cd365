-- The loops of the circle test, and that it is the rules' test. Assumes nothing.
use Rattle.std.specs.Prelude.{◌≡◌, Bool, List, eqb}
use Rattle.std.proofs.Math.Path.{refl, sym, ap, ap₂, subst}
use Rattle.std.proofs.Common.{◌∙◌, zero-add}
use Rattle.std.proofs.Math.Bool.{true, false, not}
use Prim.Native.Nat.{ℕ, zero, suc, ◌+◌, ◌*◌, ◌-◌, ◌^◌, ◌%◌, ◌≤◌, ◌<◌}
use native.Mathlib.Omega.{arith}
use Rattle.std.proofs.Math.Nat.{two-pow-succ, pow-le-pow_right, zero-div}
use Rattle.std.proofs.lemmas.List.{get_or-replicate}
use Rattle.std.proofs.Math.Dec.{T}
use Rattle.rules.specs.Basics.{all, range}
use Rattle.rules.specs.Needs.{marked, givers_marked, rounds, circle_free}
use Rattle.rules.specs.SmallGates.{bit, need_bit, needs_of, gateb}
use Rattle.laws.specs.Tests.{tests, T_and, T_not, T-eqb, T-all, bool-ext}
use Rattle.laws.specs.Lists.{tabulate-at}
use Rattle.laws.specs.Counting.{range-below, all_same}
use Rattle.laws.specs.SmallGates.{digit_of, of_bits, of-below, bit-of, bits-same, needs-are}
use Rattle.needsets.specs.Marks.{waits_on, is_ready, marked_bits, marks}

-- ---- a number put together from its highest bit down

-- the bits from i up, of n
pub record BitsSoFar (p : ℕ → Bool) (n i next : ℕ) : Type 0 where
  pub short : i ≤ n
  pub same : next ≡ of_bits p (n - i) i

pub bits-start : (p : ℕ → Bool) (n : ℕ) → BitsSoFar p n n 0
unfolding of_bits
bits-start p n = record { short = omega arith; same = let e : 0 ≡ n - n = omega arith in ap (λ (c : ℕ). of_bits p c n) e }

module _ {p : ℕ → Bool} {n i next : ℕ} (s : BitsSoFar p n i next) where
  -- of at most four jobs
  pub bits_small : n ≤ 4 → next < 16
  bits_small few = omega (arith, s.same, of-below p (n - i) i, pow-le-pow_right {n = 2} (omega arith) {i = n - i} {j = 4} (omega arith))

  -- one bit more, at the low end
  module _ (h : 0 < i) where
    bits-step : (b : Bool) → p (i - 1) ≡ b → of_bits p (n - (i - 1)) (i - 1) ≡ digit_of b + 2 * next
    unfolding of_bits
    bits-step b e =
        let c : n - (i - 1) ≡ suc (n - i) = omega (arith, s.short) in
        let j : suc (i - 1) ≡ i = omega arith in
        ap (λ (k : ℕ). of_bits p k (i - 1)) c
        ∙ ap₂ (λ (d : Bool) (k : ℕ). digit_of d + 2 * of_bits p (n - i) k) e j ∙ ap (λ (k : ℕ). digit_of b + 2 * k) (sym s.same)

    pub bits-one : p (i - 1) ≡ true → BitsSoFar p n (i - 1) (next * 2 + 1)
    unfolding digit_of
    bits-one e = record { short = omega (arith, s.short); same = omega (arith, bits-step true e) }

    pub bits-zero : p (i - 1) ≡ false → BitsSoFar p n (i - 1) (next * 2)
    unfolding digit_of
    bits-zero e = record { short = omega (arith, s.short); same = omega (arith, bits-step false e) }

  pub bits-end : i ≤ 0 → next ≡ of_bits p n 0
  bits-end h =
      let e : i ≡ 0 = omega arith in
      let c : n - i ≡ n = omega arith in
      s.same ∙ ap₂ (λ (k j : ℕ). of_bits p k j) c e

-- ---- the number with all bits

-- the number of n bits that are all set is one less than 2 ^ n
full_is : (n i : ℕ) → of_bits (λ _. true) n i + 1 ≡ 2 ^ n
unfolding of_bits digit_of
full_is zero i = refl
full_is (suc n) i = omega (arith, full_is n (suc i), two-pow-succ n)

-- a number of n bits is that number where its bits are all set
all_set : (n v : ℕ) → v < 2 ^ n → eqb v (2 ^ n - 1) ≡ all (bit v) (range n 0)
all_set n v below = bool-ext (eqb v (2 ^ n - 1)) (all (bit v) (range n 0)) to from
  where
    set-in-full : (i : ℕ) → i < n → bit (of_bits (λ _. true) n 0) i ≡ true
    set-in-full i h = bit-of (λ _. true) n 0 i h

    to : T (eqb v (2 ^ n - 1)) → T (all (bit v) (range n 0))
    to t = (T-all (bit v) (range n 0)).1 (λ i m.
        let e : of_bits (λ _. true) n 0 ≡ v = omega (arith, (T-eqb v (2 ^ n - 1)).0 t, full_is n 0) in
        subst (λ (k : ℕ). T (bit k i)) e (subst T (sym (set-in-full i ((range-below n i).0 m))) tt))

    from : T (all (bit v) (range n 0)) → T (eqb v (2 ^ n - 1))
    from t =
        let same = bits-same n v (of_bits (λ _. true) n 0) below (of-below (λ _. true) n 0) (λ i h.
        bool-ext (bit v i) (bit (of_bits (λ _. true) n 0) i) (λ _. subst T (sym (set-in-full i h)) tt)
        (λ _. (T-all (bit v) (range n 0)).0 t i ((range-below n i).1 h))) in
        (T-eqb v (2 ^ n - 1)).1 (omega (arith, same, full_is n 0))

-- ---- the test is the rules' test

-- what is not false is true
stable : (b : Bool) → ((T b → ⊥) → ⊥) → T b
stable true h = tt
stable false h = absurd (h (λ f. f))

-- no bit of 0 is set
bit-zero : (i : ℕ) → bit 0 i ≡ false
unfolding bit
bit-zero i = ap (λ (k : ℕ). eqb (k % 2) 1) (zero-div (2 ^ i))

module _ (n m : ℕ) where
  -- where the marks are the same, the same jobs have all their givers marked
  module _ (v : ℕ) (q : List Bool) (same : (g : ℕ) → g < n → bit v g ≡ marked q g) (i : ℕ) (h : i < n) where
    ready-to : T (is_ready n m v i) → T (givers_marked (needs_of n m) q i)
    unfolding is_ready waits_on givers_marked
    ready-to t = simp tests (λ d w e. go d.0 ((needs-are n m d.0 d.1).0 w) e)
      where
        go : (g : ℕ) {k : ℕ} → (g < n) × (k < n) × T (bit m (need_bit n (g, k))) → k ≡ i → T (marked q g)
        go g w e =
            let ready = (T-all (λ j. not (waits_on n m v i j)) (range n 0)).0 t g ((range-below n g).1 w.0) in
            let need = subst (λ (j : ℕ). T (bit m (need_bit n (g, j)))) e w.2 in
            subst T (same g w.0)
            (stable (bit v g) (λ no. (T_not (waits_on n m v i g)).0 ready ((T_and (bit m (need_bit n (g, i))) (not (bit v g))).1 (need, (T_not (bit v g)).1 no))))

    ready-from : T (givers_marked (needs_of n m) q i) → T (is_ready n m v i)
    unfolding is_ready waits_on givers_marked
    ready-from t = simp tests (λ g w b. let l = (range-below n g).0 w in b.1 (subst T (sym (same g l)) (go g l b.0)))
      where
        go : (g : ℕ) → g < n → T (bit m (need_bit n (g, i))) → T (marked q g)
        go g l b = simp tests at ((T-all _ (needs_of n m)).0 t (g, i) ((needs-are n m g i).1 (l, h, b))) refl

    ready-is : is_ready n m v i ≡ givers_marked (needs_of n m) q i
    ready-is = bool-ext (is_ready n m v i) (givers_marked (needs_of n m) q i) ready-to ready-from

  -- after so many rounds the same jobs are marked
  marks-are : (f i : ℕ) → i < n → bit (marks n m f) i ≡ marked (rounds n (needs_of n m) f) i
  unfolding marks marked_bits rounds
  marks-are zero i h = bit-zero i ∙ sym (get_or-replicate n i false false h)
  marks-are (suc f) i h =
      let q = rounds n (needs_of n m) f in
      bit-of (is_ready n m (marks n m f)) n 0 i h ∙ ap (is_ready n m (marks n m f)) (zero-add i)
      ∙ ready-is (marks n m f) q (marks-are f) i h
      ∙ sym (tabulate-at (givers_marked (needs_of n m) q) n 0 i false h ∙ ap (givers_marked (needs_of n m) q) (zero-add i))

  marks-below : (f : ℕ) → marks n m f < 2 ^ n
  unfolding marks marked_bits
  marks-below zero = omega (arith, full_is n 0)
  marks-below (suc f) = of-below (is_ready n m (marks n m f)) n 0

  -- "without a circle": as many rounds as there are jobs mark all
  pub gate-is : eqb (marks n m n) (2 ^ n - 1) ≡ gateb n m
  unfolding gateb circle_free
  gate-is = all_set n (marks n m n) (marks-below n) ∙ all_same n (bit (marks n m n)) (marked (rounds n (needs_of n m) n)) (marks-are n)
