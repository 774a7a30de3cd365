-- Two-byte numbers and two's complement. Assumes nothing.
use Rattle.std.specs.Prelude.{◌≡◌, refl, ◌↔◌, Bool, true, false, List, [], ◌∷◌, ◌++◌, ℕ, zero, suc, ◌-◌, ◌≤◌, ◌<◌, take, drop, T, ltb, ℤ, pos, negsuc}
use Rattle.std.proofs.Common.{ap, subst, arith, ltb→lt, lt→ltb}
use Rattle.rules.specs.Basics.{choose, at}
use Rattle.rules.specs.Numbers.{Bytes, word, low, high, signed, unsigned, InRange, eqℤ}
use Rattle.laws.specs.Tests.{tests}

-- ---- bytes

pub bytes-at : (v : List ℕ) → Bytes v → (i : ℕ) → at v i < 256
bytes-at [] h i = omega arith
bytes-at (x ∷ v) h zero = h.0
bytes-at (x ∷ v) h (suc i) = bytes-at v h.1 i

pub bytes-all : (v : List ℕ) → ((i : ℕ) → at v i < 256) → Bytes v
bytes-all [] h = tt
bytes-all (x ∷ v) h = (h 0, bytes-all v (λ i. h (suc i)))

pub bytes-join : (a b : List ℕ) → Bytes a → Bytes b → Bytes (a ++ b)
bytes-join [] b h k = k
bytes-join (x ∷ a) b h k = (h.0, bytes-join a b h.1 k)

pub bytes_take : (k : ℕ) (v : List ℕ) → Bytes v → Bytes (take k v)
bytes_take zero v h = tt
bytes_take (suc k) [] h = tt
bytes_take (suc k) (x ∷ v) h = (h.0, bytes_take k v h.1)

pub bytes_drop : (k : ℕ) (v : List ℕ) → Bytes v → Bytes (drop k v)
bytes_drop zero v h = h
bytes_drop (suc k) [] h = tt
bytes_drop (suc k) (x ∷ v) h = bytes_drop k v h.1

pub word_split : (w : ℕ) → w < 65536 → (word (low w) (high w) ≡ w) × (low w < 256) × (high w < 256)
unfolding word low high
word_split w h = omega arith

pub split-word : (lo hi : ℕ) → lo < 256 → hi < 256 → (low (word lo hi) ≡ lo) × (high (word lo hi) ≡ hi) × (word lo hi < 65536)
unfolding word low high
split-word lo hi a b = omega arith

-- ---- two's complement

data Sign (w : ℕ) : ℤ → Type 0 where
  plus : w < 32768 → Sign w (pos w)
  minus : 32768 ≤ w → Sign w (negsuc (65535 - w))

sign : (w : ℕ) → Sign w (signed w)
unfolding signed choose
sign w = go (ltb w 32768) (ltb→lt w 32768) (lt→ltb w 32768)
  where
    go : (b : Bool) → (T b → w < 32768) → (w < 32768 → T b) → Sign w (choose b (pos w) (negsuc (65535 - w)))
    go true f g = plus (f tt)
    go false f g = let h : ¬ (w < 32768) = g in minus (omega arith)

pub unsigned_signed : (w : ℕ) → w < 65536 → (unsigned (signed w) ≡ w) × InRange (signed w)
unfolding unsigned
unsigned_signed w h = go (signed w) (sign w)
  where
    go : (z : ℤ) → Sign w z → (unsigned z ≡ w) × InRange z
    go _ (plus p) = (refl, p)
    go _ (minus p) = omega arith

pub signed-unsigned : (z : ℤ) → InRange z → (signed (unsigned z) ≡ z) × (unsigned z < 65536)
unfolding unsigned
signed-unsigned (pos m) h = (go (signed m) (sign m), omega arith)
  where
    go : (z : ℤ) → Sign m z → z ≡ pos m
    go _ (plus p) = refl
    go _ (minus p) = absurd (omega arith)
signed-unsigned (negsuc m) h = (go (signed (65535 - m)) (sign (65535 - m)), omega arith)
  where
    go : (z : ℤ) → Sign (65535 - m) z → z ≡ negsuc m
    go _ (plus p) = absurd (omega arith)
    go _ (minus p) = ap negsuc (omega arith)

eqℤ-refl : (a : ℤ) → T (eqℤ a a)
unfolding eqℤ
eqℤ-refl (pos m) = simp tests (omega arith)
eqℤ-refl (negsuc m) = simp tests (omega arith)

eqℤ-same : (a b : ℤ) → T (eqℤ a b) → a ≡ b
unfolding eqℤ
eqℤ-same (pos m) (pos n) h = let w = simp tests at h in ap pos (omega arith)
eqℤ-same (pos m) (negsuc n) h = absurd h
eqℤ-same (negsuc m) (pos n) h = absurd h
eqℤ-same (negsuc m) (negsuc n) h = let w = simp tests at h in ap negsuc (omega arith)

pub T-eqℤ : (a b : ℤ) → T (eqℤ a b) ↔ (a ≡ b)
T-eqℤ a b = (eqℤ-same a b, λ e. subst (λ (z : ℤ). T (eqℤ a z)) e (eqℤ-refl a))
