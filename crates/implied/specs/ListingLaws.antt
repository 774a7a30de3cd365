-- What comes next in the list, and that all of it is the rules' list. Assumes nothing.
use Rattle.std.specs.Prelude.{◌≡◌, ◌⊎◌, ◌↔◌, true, false, ◌&&◌}
use Rattle.std.proofs.Math.Path.{refl, ap₂}
use Rattle.std.proofs.Common.{sym, ap, ◌∙◌, inl, inr, ⊎_elim, add-one, arith}
use Rattle.std.proofs.Math.Bool.{Bool}
use mathlib.Core.List.Memᴰ
use mathlib.Core.List.{List, [], ◌∷◌, ◌++◌, map, map-append, Memᴰ}
use Prim.Native.Nat.{ℕ, zero, suc, ◌+◌, ◌-◌, ◌*◌, ◌≤◌, ◌<◌}
use Rattle.rules.specs.Basics.{choose, filter, range}
use Rattle.rules.specs.Needs.{Need, Gives, NeedsIn, Circle, givesb}
use Rattle.rules.specs.Implied.{impliedb, implied_takers, implied_from, pair_numbers}
use Rattle.laws.specs.Tests.{T_and}
use Rattle.laws.specs.Lists.{Rising, filter-mem, filter-mem⁻¹, filter_same, filter-append, filter-rising, range-rising}
use Rattle.laws.specs.Counting.{range-below}
use Rattle.laws.specs.Program.{gives-is}
use Rattle.laws.specs.Implied.{far-is, pairs-append}
use Rattle.jobset.specs.declared.Set.{Set}
use Rattle.jobset.specs.Sets.{member, members}
use Rattle.jobset.specs.Membership.{member-intersection}
use Rattle.jobset.specs.Members.{members-passing}
use Rattle.needrows.specs.Rows.{row_bits, word_bits, words_for, word_at, takers_of, takers_behind, RowsAre}
use Rattle.needrows.specs.Words.{member-word}
use Rattle.needrows.specs.Takers.{words-turn, words-end, word-within, takers-are, takers-rising}
use Rattle.releases.specs.Peels.{numbered}
use Rattle.implied.specs.Beyond.{RowsThere, in_row, Right}
use Rattle.implied.specs.Listing.{pairs_of, Few, both_at, follows_behind, follows_of, row_from, follows_from, rows_from}

-- ---- pairs

-- the takers of a word, one first
pub numbered-first : (first : ℕ) (s rest : Set) (i : ℕ) → members s ≡ i ∷ members rest → numbered first s ≡ (first + i) ∷ numbered first rest
numbered-first first s rest i e = rw e refl

pub numbered-none : (first : ℕ) (s : Set) → members s ≡ [] → numbered first s ≡ []
numbered-none first s e = rw e refl

-- of the takers of a word: one first, none
pub pair-first : (g first : ℕ) (s rest : Set) (i : ℕ) → members s ≡ i ∷ members rest
    → pairs_of g (numbered first s) ≡ pair_numbers ((g, first + i) ∷ []) ++ pairs_of g (numbered first rest)
unfolding pair_numbers
pair-first g first s rest i e = rw e refl

pub pair-none : (g first : ℕ) (s : Set) → members s ≡ [] → pairs_of g (numbered first s) ≡ []
unfolding pair_numbers
pair-none g first s e = rw e refl

-- ---- words

-- the entries of a list that pass, of those that were made from others
filter_map : (p : ℕ → Bool) (f : ℕ → ℕ) (xs : List ℕ) → filter p (map f xs) ≡ map f (filter (λ x. p (f x)) xs)
unfolding filter choose
filter_map p f [] = refl
filter_map p f (x ∷ xs) = go (p (f x)) (filter_map p f xs)
  where
    go : (b : Bool) → filter p (map f xs) ≡ map f (filter (λ y. p (f y)) xs)
        → choose b (f x ∷ filter p (map f xs)) (filter p (map f xs)) ≡ map f (choose b (x ∷ filter (λ y. p (f y)) xs) (filter (λ y. p (f y)) xs))
    go true e = ap (λ (l : List ℕ). f x ∷ l) e
    go false e = e

-- of those that passed another test
filter-filter : (p q : ℕ → Bool) (xs : List ℕ) → filter q (filter p xs) ≡ filter (λ x. p x && q x) xs
unfolding filter choose
filter-filter p q [] = refl
filter-filter p q (x ∷ xs) = go (p x) (q x) refl (filter-filter p q xs)
  where
    go : (a b : Bool) → q x ≡ b → filter q (filter p xs) ≡ filter (λ y. p y && q y) xs
        → filter q (choose a (x ∷ filter p xs) (filter p xs)) ≡ choose (a && b) (x ∷ filter (λ y. p y && q y) xs) (filter (λ y. p y && q y) xs)
    go true true e f = rw e (ap (λ (l : List ℕ). x ∷ l) f)
    go true false e f = rw e f
    go false b e f = f

module _ (takers beyond : List ℕ) (n g w : ℕ) where
  -- the takers of a word that stand beyond g too
  abbrev both : Set
  both = both_at takers beyond g w

  word-both : filter (in_row beyond g) (numbered (word_bits * w) (word_at takers g w)) ≡ numbered (word_bits * w) both
  word-both =
      filter_map (in_row beyond g) (word_bits * w +◌) (members (word_at takers g w))
      ∙ ap (map (word_bits * w +◌)) (
      ap (filter (λ j. in_row beyond g (word_bits * w + j))) (members-passing (word_at takers g w))
      ∙ filter-filter (member (word_at takers g w)) (λ j. in_row beyond g (word_bits * w + j)) (range 64 0)
      ∙ filter_same _ _ (range 64 0) (λ j m.
      ap (λ (b : Bool). member (word_at takers g w) j && b) (sym (member-word beyond g w j ((range-below 64 j).0 m)))
      ∙ sym (member-intersection (word_at takers g w) (word_at beyond g w) j))
      ∙ sym (members-passing both))

  -- they are jobs of a file
  pub both-few : RowsThere takers n beyond → g < n → w < words_for n → Few (numbered (word_bits * w) (both_at takers beyond g w))
  both-few there h l k m =
      let v = (filter-mem⁻¹ (in_row beyond g) (numbered (word_bits * w) (word_at takers g w)) k (rw word-both m)).0 in
      omega (arith, there.rows_of.takers-in g k h (word-within takers g n w k l v), there.rows_of.jobs-few)

  -- a word more
  pub follows-turn : w < words_for n
      → row_from takers beyond n g w ≡ pairs_of g (numbered (word_bits * w) (both_at takers beyond g w)) ++ row_from takers beyond n g (w + 1)
  follows-turn h =
      ap (pairs_of g) (
      ap (filter (in_row beyond g)) (words-turn takers n g w h)
      ∙ filter-append (in_row beyond g) (numbered (word_bits * w) (word_at takers g w)) (takers_behind takers n g (w + 1))
      ∙ ap (λ (l : List ℕ). l ++ follows_behind takers beyond n g (w + 1)) word-both)
      ∙ ap pair_numbers (map-append (λ k. (g, k)) (numbered (word_bits * w) both) (follows_behind takers beyond n g (w + 1)))
      ∙ pairs-append (map (λ k. (g, k)) (numbered (word_bits * w) both)) (map (λ k. (g, k)) (follows_behind takers beyond n g (w + 1)))

  -- no word is left
  pub follows-end : words_for n ≤ w → row_from takers beyond n g w ≡ []
  unfolding filter pair_numbers
  follows-end h = rw (words-end takers n g w h) refl

-- ---- givers

-- one giver more
pub rows-turn : (takers beyond : List ℕ) (n g : ℕ) → g < n → rows_from takers beyond n g ≡ row_from takers beyond n g 0 ++ rows_from takers beyond n (g + 1)
unfolding follows_from
rows-turn takers beyond n g h =
    let e : n - g ≡ suc (n - (g + 1)) = omega arith in
    rw (e, add-one g) (pairs-append (map (λ k. (g, k)) (follows_of takers beyond n g)) (follows_from takers beyond n (n - suc g) (suc g)))

-- no giver is left
pub rows_end : (takers beyond : List ℕ) (n g : ℕ) → n ≤ g → rows_from takers beyond n g ≡ []
unfolding follows_from pair_numbers
rows_end takers beyond n g h = let e : n - g ≡ 0 = omega arith in rw e refl

-- ---- the rules' list

-- rising lists with the same entries are equal
rising-same : (xs ys : List ℕ) → Rising xs → Rising ys → ((z : ℕ) → Memᴰ z xs ↔ Memᴰ z ys) → xs ≡ ys
rising-same [] [] a b h = refl
rising-same [] (y ∷ ys) a b h = absurd (Memᴰ.not-nil ((h y).1 (Memᴰ.head refl)))
rising-same (x ∷ xs) [] a b h = absurd (Memᴰ.not-nil ((h x).0 (Memᴰ.head refl)))
rising-same (x ∷ xs) (y ∷ ys) a b h =
    ap₂ (λ (z : ℕ) (zs : List ℕ). z ∷ zs) first (rising-same xs ys a.1 b.1 (λ z. (λ m. behind z m, λ m. before z m)))
  where
    first : x ≡ y
    first = go (Memᴰ.cases_cons ((h x).0 (Memᴰ.head refl))) (Memᴰ.cases_cons ((h y).1 (Memᴰ.head refl)))
      where
        go : (x ≡ y) ⊎ Memᴰ x ys → (y ≡ x) ⊎ Memᴰ y xs → x ≡ y
        go (inl e) r = e
        go (inr m) (inl e) = sym e
        go (inr m) (inr k) = absurd (omega (arith, b.0 x m, a.0 y k))

    behind : (z : ℕ) → Memᴰ z xs → Memᴰ z ys
    behind z m = ⊎_elim (λ e. absurd (omega (arith, a.0 z m, first))) (λ k. k) (Memᴰ.cases_cons ((h z).0 (Memᴰ.tail m)))

    before : (z : ℕ) → Memᴰ z ys → Memᴰ z xs
    before z m = ⊎_elim (λ e. absurd (omega (arith, b.0 z m, first))) (λ k. k) (Memᴰ.cases_cons ((h z).1 (Memᴰ.tail m)))

module _ (takers beyond : List ℕ) (n : ℕ) (needs : List Need) (few : n ≤ row_bits) (needs-in : NeedsIn n needs) (free : ¬ (Circle needs))
    (are : RowsAre takers n needs) (right : (g : ℕ) → g < n → Right n needs beyond g) where
  -- the takers of one giver
  takers-same : (g : ℕ) → g < n → follows_of takers beyond n g ≡ implied_takers n needs g
  unfolding implied_takers
  takers-same g h =
      rising-same (filter (in_row beyond g) (takers_of takers n g)) (filter test (range n 0))
      (filter-rising (in_row beyond g) (takers_of takers n g) (takers-rising takers g n)) (filter-rising test (range n 0) (range-rising n 0))
      (λ k. (λ m. to k m, λ m. from k m))
    where
      test : ℕ → Bool
      test k = givesb needs g k && impliedb n needs (g, k)

      is : (k : ℕ) → Memᴰ k (takers_of takers n g) ↔ Gives needs g k
      is = takers-are takers n needs few needs-in are g h

      to : (k : ℕ) → Memᴰ k (filter (in_row beyond g) (takers_of takers n g)) → Memᴰ k (filter test (range n 0))
      to k m =
          let w = filter-mem⁻¹ (in_row beyond g) (takers_of takers n g) k m in
          let a = (is k).0 w.0 in
          let l = (needs-in g k a).1 in
          filter-mem test (range n 0) k ((range-below n k).1 l)
          ((T_and (givesb needs g k) (impliedb n needs (g, k))).1 ((gives-is needs g k).1 a, (far-is needs-in free g k).1 ((right g h k l).0 w.1)))

      from : (k : ℕ) → Memᴰ k (filter test (range n 0)) → Memᴰ k (filter (in_row beyond g) (takers_of takers n g))
      from k m =
          let w = filter-mem⁻¹ test (range n 0) k m in
          let u = (T_and (givesb needs g k) (impliedb n needs (g, k))).0 w.1 in
          filter-mem (in_row beyond g) (takers_of takers n g) k ((is k).1 ((gives-is needs g k).0 u.0))
          ((right g h k ((range-below n k).0 w.0)).1 ((far-is needs-in free g k).0 u.1))

  -- the needs of c givers from g up
  pub follows-are : (c g : ℕ) → g + c ≤ n → follows_from takers beyond n c g ≡ implied_from n needs c g
  unfolding follows_from implied_from
  follows-are zero g h = refl
  follows-are (suc c) g h =
      ap₂ (λ (x y : List Need). x ++ y) (ap (map (λ k. (g, k))) (takers-same g (omega arith))) (follows-are c (suc g) (omega arith))
