-- The takers of a giver, word by word: which they are, that they rise, and what a loop over the words needs. Assumes nothing.
use Rattle.std.specs.Prelude.{◌≡◌, true, ◌↔◌, length}
use Rattle.std.proofs.Math.Path.{refl}
use Rattle.std.proofs.Common.{sym, ap, ◌∙◌, ⊎_elim}
use mathlib.Core.List.Memᴰ
use mathlib.Core.List.{List, [], ◌∷◌, ◌++◌, map, Memᴰ}
use Prim.Native.Nat.{ℕ, zero, suc, ◌+◌, ◌-◌, ◌*◌, ◌<◌, ◌≤◌}
use Rattle.std.proofs.Math.Decide.{dec_lt}
use Rattle.std.proofs.Math.Numerals.{add-one}
use native.Mathlib.Omega.{arith}
use Rattle.rules.specs.Basics.{range, Distinct}
use Rattle.rules.specs.Needs.{Need, Gives, NeedsIn, givesb}
use Rattle.laws.specs.Tests.{T_true}
use Rattle.laws.specs.Lists.{Rising, map-mem, map-mem⁻¹, range-rising, filter-rising}
use Rattle.laws.specs.Counting.{rising-distinct}
use Rattle.laws.specs.Program.{gives-is}
use Rattle.jobset.specs.declared.Set.{Set}
use Rattle.jobset.specs.Sets.{member, empty, members}
use Rattle.jobset.specs.Members.{members-passing, in_members, members-empty}
use Rattle.bitmap.specs.Marks.{is_marked}
use Rattle.needrows.specs.Rows.{row_bytes, row_bits, word_bytes, word_bits, words_for, word_at, takers_from, takers_behind, takers_of, still_to_come, RowsAre}
use Rattle.needrows.specs.Words.{member-word}

-- ---- lists that rise

map-rising : (d : ℕ) (xs : List ℕ) → Rising xs → Rising (map (d +◌) xs)
map-rising d [] r = tt
map-rising d (x ∷ xs) r = (map-mem⁻¹ (λ y. d + x < y) (d +◌) xs (λ y m. omega (arith, r.0 y m)), map-rising d xs r.1)

append-rising : (xs ys : List ℕ) → Rising xs → Rising ys → ((x y : ℕ) → Memᴰ x xs → Memᴰ y ys → x < y) → Rising (xs ++ ys)
append-rising [] ys a b h = b
append-rising (x ∷ xs) ys a b h = (
  λ y m. ⊎_elim (a.0 y) (h x y (Memᴰ.head refl)) (Memᴰ.append_cases xs m),
  append-rising xs ys a.1 b (λ u v m. h u v (Memᴰ.tail m)),
)

-- ---- a loop over the words

module _ (rows : List ℕ) (n g w : ℕ) where
  -- a turn, from what the code's test says
  pub words-turn : w < words_for n → takers_behind rows n g w ≡ map (word_bits * w +◌) (members (word_at rows g w)) ++ takers_behind rows n g (w + 1)
  unfolding takers_from
  words-turn h =
      let e : words_for n - w ≡ suc (words_for n - (w + 1)) = omega arith in
      rw (e, add-one w) refl

  -- the end
  pub words-end : words_for n ≤ w → takers_behind rows n g w ≡ []
  unfolding takers_from
  words-end h = let e : words_for n - w ≡ 0 = omega arith in rw e refl

  -- the bytes of a word are there
  pub word_fits : n ≤ row_bits → row_bytes * n ≤ length rows → g < n → w < words_for n → row_bytes * g + word_bytes * w + word_bytes ≤ length rows
  word_fits a b c d = omega arith

-- ---- the iterator over the takers, where no member is left of the word before

module _ (rows : List ℕ) (g words next first : ℕ) (here : Set) (none : members here ≡ []) where
  -- the next word comes
  pub next-word : next < words → still_to_come rows g words next first here ≡ still_to_come rows g words (next + 1) (word_bits * next) (word_at rows g next)
  unfolding takers_from
  next-word h =
      let e : words - next ≡ suc (words - (next + 1)) = omega arith in
      rw (none, e, add-one next) refl

  -- no word is left
  pub no-word : words ≤ next → still_to_come rows g words next first here ≡ []
  unfolding takers_from
  no-word h = let e : words - next ≡ 0 = omega arith in rw (none, e) refl

-- all are to come before the first word
pub all-to-come : (rows : List ℕ) (n g : ℕ) → still_to_come rows g (words_for n) 0 0 empty ≡ takers_of rows n g
all-to-come rows n g = rw members-empty refl

-- ---- which they are

module _ (rows : List ℕ) (g : ℕ) where
  -- taker k is marked, and stands in a word from w on, and before v
  abbrev Between : ℕ → ℕ → ℕ → Type 0
  Between w v k = (word_bits * w ≤ k) × (k < word_bits * v) × (is_marked rows (row_bits * g + k) ≡ true)

  -- the takers of one word
  word-is : (w k : ℕ) → Memᴰ k (map (word_bits * w +◌) (members (word_at rows g w))) ↔ Between w (suc w) k
  word-is w k = (
    map-mem⁻¹ (Between w (suc w)) (word_bits * w +◌) (members (word_at rows g w)) (λ j m.
        let h = (in_members (word_at rows g w) j).0 m in
        (omega arith, omega (arith, h.0), sym (member-word rows g w j h.0) ∙ h.1)) k,
    λ h. let j = k - word_bits * w in
        let e : word_bits * w + j ≡ k = omega arith in
        let l : j < word_bits = omega (arith, h.1) in
        let m = member-word rows g w j l ∙ ap (λ (x : ℕ). is_marked rows (row_bits * g + x)) e ∙ h.2 in
        rw e at (map-mem (word_bits * w +◌) (members (word_at rows g w)) j ((in_members (word_at rows g w) j).1 (l, m))),
  )

  -- of several
  from_is : (c w k : ℕ) → Memᴰ k (takers_from rows g c w) ↔ Between w (w + c) k
  unfolding takers_from
  from_is zero w k = (λ m. absurd (Memᴰ.not-nil m), λ h. absurd (omega (arith, h.0, h.1)))
  from_is (suc c) w k = step (from_is c (suc w) k)
    where
      here : List ℕ
      here = map (word_bits * w +◌) (members (word_at rows g w))

      step : Memᴰ k (takers_from rows g c (suc w)) ↔ Between (suc w) (suc w + c) k
          → Memᴰ k (here ++ takers_from rows g c (suc w)) ↔ Between w (w + suc c) k
      step rest = (
        λ m. ⊎_elim
            (λ a. let h = (word-is w k).0 a in (h.0, omega (arith, h.1), h.2))
            (λ a. let h = rest.0 a in (omega (arith, h.0), omega (arith, h.1), h.2))
            (Memᴰ.append_cases here m),
        λ h. go h (dec_lt k (word_bits * suc w)),
      )
        where
          go : Between w (w + suc c) k → Dec (k < word_bits * suc w) → Memᴰ k (here ++ takers_from rows g c (suc w))
          go h (yes l) = Memᴰ.append_left (takers_from rows g c (suc w)) ((word-is w k).1 (h.0, l, h.2))
          go h (no l) = Memᴰ.append_right here (rest.1 (omega arith, omega (arith, h.1), h.2))

  -- those of a word are among all
  pub word-within : (n w k : ℕ) → w < words_for n → Memᴰ k (map (word_bits * w +◌) (members (word_at rows g w))) → Memᴰ k (takers_of rows n g)
  word-within n w k h m = let b = (word-is w k).0 m in (from_is (words_for n - 0) 0 k).1 (omega arith, omega (arith, b.1), b.2)

  -- they rise
  from-rising : (c w : ℕ) → Rising (takers_from rows g c w)
  unfolding takers_from
  from-rising zero w = tt
  from-rising (suc c) w =
      append-rising (map (word_bits * w +◌) (members (word_at rows g w))) (takers_from rows g c (suc w))
      (map-rising (word_bits * w) (members (word_at rows g w)) word-rising) (from-rising c (suc w))
      (λ x y a b. omega (arith, ((word-is w x).0 a).1, ((from_is c (suc w) y).0 b).0))
    where
      word-rising : Rising (members (word_at rows g w))
      word-rising = rw (members-passing (word_at rows g w)) (filter-rising (member (word_at rows g w)) (range 64 0) (range-rising 64 0))

  pub takers-rising : (n : ℕ) → Rising (takers_of rows n g)
  takers-rising n = from-rising (words_for n - 0) 0

  pub takers-distinct : (n : ℕ) → Distinct (takers_of rows n g)
  takers-distinct n = rising-distinct (takers_of rows n g) (takers-rising n)

-- of rows that are those of needs, they are the takers
module _ (rows : List ℕ) (n : ℕ) (needs : List Need) (n-le : n ≤ row_bits) (needs-in : NeedsIn n needs) (are : RowsAre rows n needs) (g : ℕ) (g-in : g < n) where
  pub takers-are : (k : ℕ) → Memᴰ k (takers_of rows n g) ↔ Gives needs g k
  takers-are k = (
    λ m. let h = (from_is rows g (words_for n - 0) 0 k).0 m in
        (gives-is needs g k).0 ((T_true (givesb needs g k)).1 (sym (are g k g-in (omega (arith, h.1))) ∙ h.2)),
    λ a. let l = (needs-in g k a).1 in
        (from_is rows g (words_for n - 0) 0 k).1 (omega arith, omega arith, are g k g-in (omega arith) ∙ (T_true (givesb needs g k)).0 ((gives-is needs g k).1 a)),
  )

  -- each is a job
  pub takers-below : (k : ℕ) → Memᴰ k (takers_of rows n g) → k < n
  takers-below k m = (needs-in g k ((takers-are k).0 m)).1
