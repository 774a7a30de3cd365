-- The digits of the number in several bytes are the marks of these bytes. Assumes nothing.
use Rattle.std.specs.Prelude.{◌≡◌, List, ℕ, zero, suc, ◌+◌, ◌-◌, ◌*◌, ◌/◌, ◌%◌, ◌^◌, ◌<◌}
use Rattle.std.proofs.Math.Path.{sym, ap, ap₂}
use Rattle.std.proofs.Common.{◌∙◌, mul_assoc}
use Rattle.std.proofs.Math.Decide.{dec_lt}
use Rattle.std.proofs.Math.Nat.{pow-succ'}
use native.Mathlib.Omega.{arith}
use Rattle.std.proofs.Math.Dec.{eqb}
use Rattle.rules.specs.Basics.{at}
use Rattle.jobset.specs.Sets.{digit, member}
use Rattle.jobset.specs.Digits.{digit-half}
use Rattle.bitmap.specs.Marks.{is_marked}
use Rattle.needrows.specs.Rows.{row_bytes, row_bits, word_bytes, word_bits, byte_at, two_at, four_at, eight_at, word_at}

-- ---- the digits of a + 2 ^ k * b

twice : (k b : ℕ) → 2 ^ suc k * b ≡ 2 * (2 ^ k * b)
twice k b = ap (λ (x : ℕ). x * b) (pow-succ' 2 k) ∙ mul_assoc 2 (2 ^ k) b

halved : (k a b : ℕ) → (a + 2 ^ suc k * b) / 2 ≡ a / 2 + 2 ^ k * b
halved k a b = rw (twice k b) (omega arith)

digit-next : (k a b j : ℕ) → digit (a + 2 ^ suc k * b) (suc j) ≡ digit (a / 2 + 2 ^ k * b) j
digit-next k a b j = sym (digit-half (a + 2 ^ suc k * b) j) ∙ ap (λ (n : ℕ). digit n j) (halved k a b)

-- the first k are those of a
digit_low : (k a b j : ℕ) → j < k → digit (a + 2 ^ k * b) j ≡ digit a j
digit_low zero a b j h = absurd (omega arith)
digit_low (suc k) a b zero h = rw (twice k b) (unfold digit in omega arith)
digit_low (suc k) a b (suc j) h = digit-next k a b j ∙ digit_low k (a / 2) b j (omega arith) ∙ digit-half a j

-- the others are those of b, where a is below 2 ^ k
digit-high : (k a b j : ℕ) → a < 2 ^ k → digit (a + 2 ^ k * b) (k + j) ≡ digit b j
digit-high zero a b j h = ap₂ digit (let e : a + 1 * b ≡ b = omega arith in e) (let e : 0 + j ≡ j = omega arith in e)
digit-high (suc k) a b j h =
    ap (digit (a + 2 ^ suc k * b)) (let e : suc k + j ≡ suc (k + j) = omega arith in e)
    ∙ digit-next k a b (k + j) ∙ digit-high k (a / 2) b j (omega (arith, pow-succ' 2 k))

-- ---- numbers in bytes

module _ (rows : List ℕ) where
  -- digit j of the bytes from i on
  abbrev mark : ℕ → ℕ → ℕ
  mark i j = digit (at rows (i + j / 8)) (j % 8)

  -- f i is the number in m bytes from i on
  abbrev Reads : (ℕ → ℕ) → ℕ → Type 0
  Reads f m = (i j : ℕ) → j < 8 * m → digit (f i) j ≡ mark i j

  -- so of twice as many bytes
  doubled : (f : ℕ → ℕ) (m : ℕ) → ((i : ℕ) → f i < 2 ^ (8 * m)) → Reads f m → Reads (λ i. f i + 2 ^ (8 * m) * f (i + m)) (2 * m)
  doubled f m below reads i j h = go (dec_lt j (8 * m))
    where
      go : Dec (j < 8 * m) → digit (f i + 2 ^ (8 * m) * f (i + m)) j ≡ mark i j
      go (yes l) = digit_low (8 * m) (f i) (f (i + m)) j l ∙ reads i j l
      go (no l) =
          let d = j - 8 * m in
          let e : j ≡ 8 * m + d = omega arith in
          let p : i + m + d / 8 ≡ i + j / 8 = omega arith in
          let q : d % 8 ≡ j % 8 = omega arith in
          ap (digit (f i + 2 ^ (8 * m) * f (i + m))) e ∙ digit-high (8 * m) (f i) (f (i + m)) d (below i) ∙ reads (i + m) d (omega arith)
          ∙ ap₂ (λ (x y : ℕ). digit (at rows x) y) p q

  byte_reads : Reads (byte_at rows) 1
  unfolding byte_at
  byte_reads i j h =
      let b = at rows i in
      let e : b % 256 + 2 ^ 8 * (b / 256) ≡ b = omega arith in
      let p : i ≡ i + j / 8 = omega arith in
      let q : j ≡ j % 8 = omega arith in
      sym (digit_low 8 (b % 256) (b / 256) j (omega arith)) ∙ ap (λ (n : ℕ). digit n j) e ∙ ap₂ (λ (x y : ℕ). digit (at rows x) y) p q

  pub byte-below : (i : ℕ) → byte_at rows i < 256
  unfolding byte_at
  byte-below i = omega arith

  pub two-below : (i : ℕ) → two_at rows i < 65536
  unfolding two_at
  two-below i = omega (arith, byte-below i, byte-below (i + 1))

  pub four_below : (i : ℕ) → four_at rows i < 4294967296
  unfolding four_at
  four_below i = omega (arith, two-below i, two-below (i + 2))

  two-reads : Reads (two_at rows) 2
  unfolding two_at
  two-reads = doubled (byte_at rows) 1 byte-below byte_reads

  four-reads : Reads (four_at rows) 4
  unfolding four_at
  four-reads = doubled (two_at rows) 2 two-below two-reads

  eight-reads : Reads (eight_at rows) 8
  unfolding eight_at
  eight-reads = doubled (four_at rows) 4 four_below four-reads

  -- ---- a word

  -- its members are marks of the row
  pub member-word : (g w j : ℕ) → j < word_bits → member (word_at rows g w) j ≡ is_marked rows (row_bits * g + (word_bits * w + j))
  unfolding member word_at is_marked
  member-word g w j h =
      let k = row_bits * g + (word_bits * w + j) in
      let p : row_bytes * g + word_bytes * w + j / 8 ≡ k / 8 = omega arith in
      let q : j % 8 ≡ k % 8 = omega arith in
      ap (λ (d : ℕ). eqb d 1) (eight-reads (row_bytes * g + word_bytes * w) j h ∙ ap₂ (λ (x y : ℕ). digit (at rows x) y) p q)
