-- Every small gate (document 02, request 14): each set of needs of n jobs without a circle is listed once, and nothing else. Assumes nothing.
use Rattle.std.specs.Prelude.{◌≡◌, ◌↔◌, Bool, true, false, ℕ, zero, suc, ◌+◌, ◌*◌, ◌^◌, ◌/◌, ◌%◌, ◌≤◌, ◌<◌, eqb}
use Rattle.std.proofs.Math.Path.{refl, sym, ap, ap₂, subst}
use Rattle.std.proofs.Common.{◌∙◌, zero-add, div-one, div-lt_iff_lt-mul, shr-shr}
use mathlib.Core.List.Memᴰ
use mathlib.Core.List.{List, Memᴰ}
use native.Mathlib.Omega.{arith}
use Rattle.std.proofs.Math.Decide.{ℕ_discrete}
use Rattle.std.proofs.Math.Nat.{two-pow-succ, div-add-mod', mod-lt}
use Rattle.std.proofs.Math.Dec.{T}
use Rattle.rules.specs.Basics.{range, Distinct}
use Rattle.rules.specs.Needs.{Need, Gives, givesb, NeedsIn, one, Circle}
use Rattle.rules.specs.SmallGates.{bit, need_bit, pairs, needs_of, gateb, gates}
use Rattle.laws.specs.Tests.{T-eqb, bool-ext}
use Rattle.laws.specs.Lists.{Rising, map-mem, map-mem⁻¹, filter-mem, filter-mem⁻¹, filter-rising, range-rising}
use Rattle.laws.specs.Counting.{rising-distinct, map-distinct, filter-distinct, range-below}
use Rattle.laws.specs.Program.{gives-is}
use Rattle.laws.specs.Circles.{circle-free}
use Rattle.laws.specs.Implied.{chain-within}
use Rattle.laws.specs.Pairs.{pair-first, pair-second, pair-before}

-- ---- bits

-- the lowest bit says that a number is odd
pub bit-lowest : (m : ℕ) → bit m 0 ≡ eqb (m % 2) 1
unfolding bit
bit-lowest m = ap (λ (x : ℕ). eqb (x % 2) 1) (div-one m)

-- the others are those of its half
pub bit-halved : (m j : ℕ) → bit m (suc j) ≡ bit (m / 2) j
unfolding bit
bit-halved m j = sym (ap (λ (x : ℕ). eqb (x % 2) 1) (shr-shr m 1 j ∙ ap (λ (k : ℕ). m / 2 ^ k) (omega arith)))

-- 1 for a bit that is set
unfoldable pub digit_of : Bool → ℕ
digit_of true = 1
digit_of false = 0

digit_low : (b : Bool) → digit_of b ≤ 1
unfolding digit_of
digit_low true = omega arith
digit_low false = omega arith

digit-is : (b : Bool) (m : ℕ) → m ≡ digit_of b → eqb m 1 ≡ b
unfolding digit_of
digit-is true m e = rw e refl
digit-is false m e = rw e refl

-- the number whose w lowest bits are p i, p (i + 1), .., and whose others are not set
unfoldable pub of_bits : (ℕ → Bool) → ℕ → ℕ → ℕ
of_bits p zero i = 0
of_bits p (suc w) i = digit_of (p i) + 2 * of_bits p w (suc i)

-- it has no more than w bits
pub of-below : (p : ℕ → Bool) (w i : ℕ) → of_bits p w i < 2 ^ w
unfolding of_bits
of-below p zero i = omega arith
of-below p (suc w) i = omega (arith, of-below p w (suc i), two-pow-succ w, digit_low (p i))

-- and those are its bits
pub bit-of : (p : ℕ → Bool) (w i j : ℕ) → j < w → bit (of_bits p w i) j ≡ p (i + j)
unfolding of_bits
bit-of p zero i j h = absurd (omega arith)
bit-of p (suc w) i zero h =
    bit-lowest (of_bits p (suc w) i) ∙ digit-is (p i) (of_bits p (suc w) i % 2) (omega (arith, digit_low (p i))) ∙ ap p (omega arith)
bit-of p (suc w) i (suc j) h =
    bit-halved (of_bits p (suc w) i) j
    ∙ ap (λ (m : ℕ). bit m j) (omega (arith, digit_low (p i)))
    ∙ bit-of p w (suc i) j (omega arith) ∙ ap p (omega arith)

-- numbers of w bits are equal where their bits are
pub bits-same : (w m k : ℕ) → m < 2 ^ w → k < 2 ^ w → ((j : ℕ) → j < w → bit m j ≡ bit k j) → m ≡ k
bits-same zero m k a b h = omega arith
bits-same (suc w) m k a b h =
    let higher : (j : ℕ) → j < w → bit (m / 2) j ≡ bit (k / 2) j = λ j l. sym (bit-halved m j) ∙ h (suc j) (omega arith) ∙ bit-halved k j in
    let halves = bits-same w (m / 2) (k / 2) (omega (arith, two-pow-succ w)) (omega (arith, two-pow-succ w)) higher in
    let lowest = odd-same (m % 2) (k % 2) (omega arith) (omega arith) (sym (bit-lowest m) ∙ h 0 (omega arith) ∙ bit-lowest k) in
    omega arith
  where
    odd-same : (x y : ℕ) → x < 2 → y < 2 → eqb x 1 ≡ eqb y 1 → x ≡ y
    odd-same x y a b e = go (ℕ_discrete x 1) (ℕ_discrete y 1)
      where
        go : Dec (x ≡ 1) → Dec (y ≡ 1) → x ≡ y
        go (yes p) (yes q) = omega arith
        go (yes p) (no q) = absurd (q ((T-eqb y 1).0 (rw (← e) ((T-eqb x 1).1 p))))
        go (no p) (yes q) = absurd (p ((T-eqb x 1).0 (rw e ((T-eqb y 1).1 q))))
        go (no p) (no q) = omega arith

-- ---- sets of needs

-- the same needs, as sets
abbrev pub SameNeeds : List Need → List Need → Type 0
SameNeeds ds es = (g k : ℕ) → Gives ds g k ↔ Gives es g k

-- whether there is a circle depends on the set of needs alone
pub circle-same : (ds es : List Need) → SameNeeds ds es → ¬ (Circle ds) → ¬ (Circle es)
circle-same ds es s free (a, c) = free (a, chain-within es ds (λ g k m. (s g k).1 m) a a c)

module _ (n : ℕ) where
  -- ---- needs and their bits

  -- the giver and the taker of a need, from its bit
  pub bit-giver : (g k : ℕ) → k < n → need_bit n (g, k) / n ≡ g
  unfolding need_bit
  bit-giver g k h = pair-first n g k h

  pub bit-taker : (g k : ℕ) → k < n → need_bit n (g, k) % n ≡ k
  unfolding need_bit
  bit-taker g k h = pair-second n g k h

  pub bit_in : (g k : ℕ) → g < n → k < n → need_bit n (g, k) < n * n
  unfolding need_bit
  bit_in g k l h = pair-before n g k n l h

  -- every bit below n * n is that of a need between the n jobs
  pub of-bit : (j : ℕ) → j < n * n → (j / n < n) × (j % n < n) × (need_bit n (j / n, j % n) ≡ j)
  unfolding need_bit
  of-bit j h = go (ℕ_discrete n 0)
    where
      go : Dec (n ≡ 0) → (j / n < n) × (j % n < n) × (j / n * n + j % n ≡ j)
      go (yes e) = absurd (let z : n * n ≡ 0 = rw e refl in omega arith)
      go (no e) = let z : 0 < n = omega arith in ((div-lt_iff_lt-mul {k = n} {x = j} {y = n} z).1 h, mod-lt j z, div-add-mod' j n)

  -- every need between the n jobs, and nothing else
  pub pairs-in : (g k : ℕ) → Memᴰ (g, k) (pairs n) ↔ ((g < n) × (k < n))
  unfolding pairs
  pairs-in g k = (
    map-mem⁻¹ (λ (d : Need). (d.0 < n) × (d.1 < n)) (λ j. (j / n, j % n)) (range (n * n) 0)
        (λ j m. let w = of-bit j ((range-below (n * n) j).0 m) in (w.0, w.1)) (g, k),
    λ (l, h). Memᴰ.cast (λ i. (sym (bit-giver g k h) i, sym (bit-taker g k h) i))
        (map-mem (λ j. (j / n, j % n)) (range (n * n) 0) (need_bit n (g, k)) ((range-below (n * n) (need_bit n (g, k))).1 (bit_in g k l h))),
  )

  -- ---- the needs that a number stands for

  -- "the number whose bit .. is set for each need"
  pub needs-are : (m g k : ℕ) → Gives (needs_of n m) g k ↔ ((g < n) × (k < n) × T (bit m (need_bit n (g, k))))
  unfolding needs_of
  needs-are m g k = (
    λ w.
        let v = filter-mem⁻¹ (λ d. bit m (need_bit n d)) (pairs n) (g, k) w in
        let p = (pairs-in g k).0 v.0 in
        (p.0, p.1, v.1),
    λ w. filter-mem (λ d. bit m (need_bit n d)) (pairs n) (g, k) ((pairs-in g k).1 (w.0, w.1)) w.2,
  )

  -- so they are between the n jobs
  pub needs-of-in : (m : ℕ) → NeedsIn n (needs_of n m)
  needs-of-in m g k w = let v = (needs-are m g k).0 w in (v.0, v.1)

  -- no need stands twice
  pub distinct-needs : (m : ℕ) → Distinct (needs_of n m)
  unfolding needs_of pairs
  distinct-needs m = filter-distinct (λ d. bit m (need_bit n d)) (pairs n) (map-distinct (λ j. (j / n, j % n)) (range (n * n) 0) once apart)
    where
      once : Distinct (range (n * n) 0)
      once = rising-distinct (range (n * n) 0) (range-rising (n * n) 0)

      apart : (i j : ℕ) → Memᴰ i (range (n * n) 0) → Memᴰ j (range (n * n) 0) → ◌≡◌ {A = Need} (i / n, i % n) (j / n, j % n) → i ≡ j
      apart i j _ _ e = sym (div-add-mod' i n) ∙ ap (λ (d : Need). d.0 * n + d.1) e ∙ div-add-mod' j n

  -- a job that needs itself is a circle
  pub no_self : (m : ℕ) → T (gateb n m) → (i : ℕ) → i < n → ¬ T (bit m (need_bit n (i, i)))
  unfolding gateb
  no_self m t i h b = (circle-free n (needs_of n m) (needs-of-in m)).0 t (i, one i i ((needs-are m i i).1 (h, h, b)))

  -- ---- the list

  -- it has just the numbers of n * n bits that stand for needs without a circle
  pub gates-are : (m : ℕ) → Memᴰ m (gates n) ↔ ((m < 2 ^ (n * n)) × (¬ (Circle (needs_of n m))))
  unfolding gates gateb
  gates-are m = (
    λ w.
        let v = filter-mem⁻¹ (gateb n) (range (2 ^ (n * n)) 0) m w in
        ((range-below (2 ^ (n * n)) m).0 v.0, (circle-free n (needs_of n m) (needs-of-in m)).0 v.1),
    λ w.
        filter-mem (gateb n) (range (2 ^ (n * n)) 0) m ((range-below (2 ^ (n * n)) m).1 w.0)
        ((circle-free n (needs_of n m) (needs-of-in m)).1 w.1),
  )

  -- "Order them .. by the number", "each listed one time"
  pub gates-rising : Rising (gates n)
  unfolding gates
  gates-rising = filter-rising (gateb n) (range (2 ^ (n * n)) 0) (range-rising (2 ^ (n * n)) 0)

  -- two numbers of n * n bits do not stand for one set
  pub set-once : (a b : ℕ) → a < 2 ^ (n * n) → b < 2 ^ (n * n) → SameNeeds (needs_of n a) (needs_of n b) → a ≡ b
  set-once a b x y s = bits-same (n * n) a b x y (λ j h.
      let w = of-bit j h in
      let to = half a b s (j / n) (j % n) w.0 w.1 in
      let back = half b a (λ g k. ((s g k).1, (s g k).0)) (j / n) (j % n) w.0 w.1 in
      subst (λ (i : ℕ). bit a i ≡ bit b i) w.2 (bool-ext _ _ to back))
    where
      half : (a b : ℕ) → SameNeeds (needs_of n a) (needs_of n b) → (g k : ℕ) → g < n → k < n
          → T (bit a (need_bit n (g, k))) → T (bit b (need_bit n (g, k)))
      half a b s g k p q t = ((needs-are b g k).0 ((s g k).0 ((needs-are a g k).1 (p, q, t)))).2

  -- the number of a set
  pub number_for : List Need → ℕ
  number_for ds = of_bits (λ j. givesb ds (j / n) (j % n)) (n * n) 0

  -- it stands for that set
  pub number_same : (ds : List Need) → NeedsIn n ds → SameNeeds (needs_of n (number_for ds)) ds
  unfolding number_for
  number_same ds inside g k = (
    λ w. let v = (needs-are (number_for ds) g k).0 w in (gives-is ds g k).0 (subst T (bit_is v.0 v.1) v.2),
    λ m.
        let v = inside g k m in
        (needs-are (number_for ds) g k).1 (v.0, v.1, subst T (sym (bit_is v.0 v.1)) ((gives-is ds g k).1 m)),
  )
    where
      bit_is : g < n → k < n → bit (number_for ds) (need_bit n (g, k)) ≡ givesb ds g k
      bit_is l h =
          bit-of (λ j. givesb ds (j / n) (j % n)) (n * n) 0 (need_bit n (g, k)) (bit_in g k l h)
          ∙ ap (λ (j : ℕ). givesb ds (j / n) (j % n)) (zero-add (need_bit n (g, k)))
          ∙ ap₂ (λ (x y : ℕ). givesb ds x y) (bit-giver g k h) (bit-taker g k h)

  -- "all files .. without a circle, as sets of needs .., each listed one time": m is the one number of the list that stands for the needs ds
  pub record ListedOnce (ds : List Need) (m : ℕ) : Type 0 where
    pub in_list : Memᴰ m (gates n)
    pub stands : SameNeeds (needs_of n m) ds
    pub only : (k : ℕ) → Memᴰ k (gates n) → SameNeeds (needs_of n k) ds → k ≡ m

  -- so every set of needs without a circle is listed once
  pub every-gate : (ds : List Need) → NeedsIn n ds → ¬ (Circle ds) → ListedOnce ds (number_for ds)
  unfolding number_for
  every-gate ds inside free = record {
    in_list = (gates-are (number_for ds)).1 (below, circle-same ds (needs_of n (number_for ds)) (λ g k. ((same g k).1, (same g k).0)) free);
    stands = same;
    only = λ k m s. set-once k (number_for ds) ((gates-are k).0 m).0 below (λ g j. (λ w. (same g j).1 ((s g j).0 w), λ w. (s g j).1 ((same g j).0 w)));
  }
    where
      same : SameNeeds (needs_of n (number_for ds)) ds
      same = number_same ds inside

      below : number_for ds < 2 ^ (n * n)
      below = of-below (λ j. givesb ds (j / n) (j % n)) (n * n) 0
