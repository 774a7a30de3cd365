-- Lists without repeats, the pigeonhole law, counts and maxima. Assumes nothing.
use Rattle.std.specs.Prelude.{◌≡◌, refl, ◌⊎◌, ◌↔◌, Bool, true, false, ℕ, zero, suc, ◌+◌, ◌≤◌, ◌<◌, max, length, T}
use Rattle.std.proofs.Common.{sym, ap, subst, ◌∙◌, inl, inr, ⊎_elim, arith, length-append}
use mathlib.Core.List.Memᴰ
use mathlib.Core.List.{List, [], ◌∷◌, ◌++◌, map, Memᴰ}
use Rattle.std.proofs.Math.Decide.{ℕ_discrete}
use Rattle.std.proofs.lemmas.List.{length-map}
use Rattle.rules.specs.Basics.{choose, at, all, range, filter, count, most, largest, Distinct}
use Rattle.laws.specs.Tests.{T-all, bool-ext}
use Rattle.laws.specs.Lists.{Rising, range-in, range_all, range-rising, filter-mem, filter-mem⁻¹, filter-rising, map-mem⁻¹}

pub rising-distinct : (xs : List ℕ) → Rising xs → Distinct xs
rising-distinct [] r = tt
rising-distinct (x ∷ xs) r = (λ m. omega (arith, r.0 x m), rising-distinct xs r.1)

-- ---- pigeonhole: distinct entries that all stand in ys are at most as many as ys has

-- ys less one x
record Less {A : Type 0} (x : A) (ys : List A) : Type 0 where
  rest : List A
  size : length ys ≡ suc (length rest)
  other : (z : A) → Memᴰ z ys → (z ≡ x) ⊎ Memᴰ z rest

less : {A : Type 0} (x : A) (ys : List A) → Memᴰ x ys → Less x ys
less x [] m = absurd (Memᴰ.not-nil m)
less {A} x (y ∷ ys) m = go (Memᴰ.cases_cons m) (less x ys)
  where
    go : (x ≡ y) ⊎ Memᴰ x ys → (Memᴰ x ys → Less x ys) → Less x (y ∷ ys)
    go (inl e) r = record { rest = ys; size = refl; other = λ z k. pick z (Memᴰ.cases_cons k) }
      where
        pick : (z : A) → (z ≡ y) ⊎ Memᴰ z ys → (z ≡ x) ⊎ Memᴰ z ys
        pick z (inl q) = inl (rw e q)
        pick z (inr q) = inr q
    go (inr w) r = record { rest = y ∷ (r w).rest; size = ap suc (r w).size; other = λ z k. pick z (Memᴰ.cases_cons k) }
      where
        more : (z : A) → (z ≡ x) ⊎ Memᴰ z (r w).rest → (z ≡ x) ⊎ Memᴰ z (y ∷ (r w).rest)
        more z (inl q) = inl q
        more z (inr q) = inr (Memᴰ.tail q)

        pick : (z : A) → (z ≡ y) ⊎ Memᴰ z ys → (z ≡ x) ⊎ Memᴰ z (y ∷ (r w).rest)
        pick z (inl q) = inr (Memᴰ.head q)
        pick z (inr q) = more z ((r w).other z q)

-- each of the distinct xs goes with an entry of ys, and no two of them with the same one
pub pigeonhole-by : {A B : Type 0} (R : A → B → Type 0) (xs : List A) (ys : List B) → Distinct xs
    → ((x : A) → Memᴰ x xs → (y : B) × Memᴰ y ys × R x y)
    → ((x z : A) (y : B) → Memᴰ x xs → Memᴰ z xs → R x y → R z y → x ≡ z) → length xs ≤ length ys
pigeonhole-by R [] ys d h one = omega arith
pigeonhole-by {A} {B} R (x ∷ xs) ys d h one = go (h x (Memᴰ.head refl)) (pigeonhole-by R xs)
  where
    go : (y : B) × Memᴰ y ys × R x y
        → ((zs : List B) → Distinct xs → ((z : A) → Memᴰ z xs → (y : B) × Memᴰ y zs × R z y)
        → ((a b : A) (y : B) → Memᴰ a xs → Memᴰ b xs → R a y → R b y → a ≡ b) → length xs ≤ length zs)
        → suc (length xs) ≤ length ys
    go (y, m, r) rec = omega (arith, w.size, rec w.rest d.1 other (λ a b c p q. one a b c (Memᴰ.tail p) (Memᴰ.tail q)))
      where
        w : Less y ys
        w = less y ys m

        other : (z : A) → Memᴰ z xs → (v : B) × Memᴰ v w.rest × R z v
        other z k = let v = h z (Memᴰ.tail k) in (
          v.0,
          ⊎_elim (λ e. absurd (d.0 (rw (one x z y (Memᴰ.head refl) (Memᴰ.tail k) r (rw e at v.2)) k))) (λ q. q) (w.other v.0 v.1),
          v.2,
        )

pub pigeonhole : {A : Type 0} (xs ys : List A) → Distinct xs → ((z : A) → Memᴰ z xs → Memᴰ z ys) → length xs ≤ length ys
pigeonhole xs ys d h = pigeonhole-by (λ x y. x ≡ y) xs ys d (λ x m. (x, h x m, refl)) (λ x z y _ _ p q. p ∙ sym q)

pub distinct_append : {A : Type 0} (xs ys : List A) → Distinct xs → Distinct ys → ((z : A) → Memᴰ z xs → Memᴰ z ys → ⊥) → Distinct (xs ++ ys)
distinct_append [] ys d e h = e
distinct_append (x ∷ xs) ys d e h = (
  λ m. ⊎_elim d.0 (h x (Memᴰ.head refl)) (Memᴰ.append_cases xs m),
  distinct_append xs ys d.1 e (λ z m. h z (Memᴰ.tail m)),
)

-- in a list without repeats an entry does not stand before itself
pub distinct-before : {A : Type 0} (xs : List A) (x : A) (ys : List A) → Distinct (xs ++ x ∷ ys) → ¬ (Memᴰ x xs)
distinct-before [] x ys u m = Memᴰ.not-nil m
distinct-before (y ∷ xs) x ys u m =
    ⊎_elim (λ e. u.0 (Memᴰ.append_right xs (Memᴰ.head (sym e)))) (λ w. distinct-before xs x ys u.1 w) (Memᴰ.cases_cons m)

-- a map that tells the entries apart keeps them distinct
pub map-distinct : {A B : Type 0} (f : A → B) (xs : List A) → Distinct xs → ((x y : A) → Memᴰ x xs → Memᴰ y xs → f x ≡ f y → x ≡ y)
    → Distinct (map f xs)
map-distinct f [] d h = tt
map-distinct f (x ∷ xs) d h = (
  λ m. map-mem⁻¹ (λ y. y ≡ f x → ⊥) f xs (λ i w e. d.0 (rw (h x i (Memᴰ.head refl) (Memᴰ.tail w) (sym e)) w)) (f x) m refl,
  map-distinct f xs d.1 (λ i j m w e. h i j (Memᴰ.tail m) (Memᴰ.tail w) e),
)

pub filter-distinct : {A : Type 0} (p : A → Bool) (xs : List A) → Distinct xs → Distinct (filter p xs)
unfolding filter choose
filter-distinct p [] d = tt
filter-distinct p (x ∷ xs) d = go (p x) (filter-distinct p xs d.1)
  where
    go : (b : Bool) → Distinct (filter p xs) → Distinct (choose b (x ∷ filter p xs) (filter p xs))
    go true r = (λ m. d.0 (filter-mem⁻¹ p xs x m).0, r)
    go false r = r

-- ---- how many i below n pass p

-- the i below n that pass p
abbrev pub passing : (ℕ → Bool) → ℕ → List ℕ
passing p n = filter p (range n 0)

pub passing-in : (p : ℕ → Bool) (n i : ℕ) → Memᴰ i (passing p n) ↔ ((i < n) × T (p i))
passing-in p n i = (
  λ m. let w = filter-mem⁻¹ p (range n 0) i m in (omega (arith, range-in n 0 i w.0), w.1),
  λ h. filter-mem p (range n 0) i (range_all n 0 i (omega arith) (omega (arith, h.0))) h.1,
)

pub passing-distinct : (p : ℕ → Bool) (n : ℕ) → Distinct (passing p n)
passing-distinct p n = rising-distinct (passing p n) (filter-rising p (range n 0) (range-rising n 0))

pub range-below : (n i : ℕ) → Memᴰ i (range n 0) ↔ (i < n)
range-below n i = (λ m. omega (arith, range-in n 0 i m), λ h. range_all n 0 i (omega arith) (omega arith))

-- of two tests that agree below n, both hold of all numbers below n, or neither does
pub all_same : (n : ℕ) (p q : ℕ → Bool) → ((i : ℕ) → i < n → p i ≡ q i) → all p (range n 0) ≡ all q (range n 0)
all_same n p q h =
    bool-ext (all p (range n 0)) (all q (range n 0))
    (λ t. (T-all q (range n 0)).1 (λ i m. subst T (h i ((range-below n i).0 m)) ((T-all p (range n 0)).0 t i m)))
    (λ t. (T-all p (range n 0)).1 (λ i m. subst T (sym (h i ((range-below n i).0 m))) ((T-all q (range n 0)).0 t i m)))

pub length-range : (k i : ℕ) → length (range k i) ≡ k
unfolding range
length-range zero i = refl
length-range (suc k) i = ap suc (length-range k (suc i))

pub count-le : (p q : ℕ → Bool) (n : ℕ) → ((i : ℕ) → i < n → T (p i) → T (q i)) → count p n ≤ count q n
unfolding count
count-le p q n h = pigeonhole (passing p n) (passing q n) (passing-distinct p n) (λ i m. let w = (passing-in p n i).0 m in
    (passing-in q n i).1 (w.0, h i w.0 w.1))

-- one more
pub count-lt : (p q : ℕ → Bool) (n x : ℕ) → ((i : ℕ) → i < n → T (p i) → T (q i)) → x < n → ¬ T (p x) → T (q x) → count p n < count q n
unfolding count
count-lt p q n x h l a b = pigeonhole (x ∷ passing p n) (passing q n) (
  λ m. a ((passing-in p n x).0 m).1,
  passing-distinct p n,
) (λ i m. go i (Memᴰ.cases_cons m))
  where
    go : (i : ℕ) → (i ≡ x) ⊎ Memᴰ i (passing p n) → Memᴰ i (passing q n)
    go i (inl e) = (passing-in q n i).1 (rw e (l, b))
    go i (inr m) = let w = (passing-in p n i).0 m in (passing-in q n i).1 (w.0, h i w.0 w.1)

-- at most one more
pub count-suc : (p q : ℕ → Bool) (n x : ℕ) → ((i : ℕ) → i < n → T (q i) → (i ≡ x) ⊎ T (p i)) → count q n ≤ suc (count p n)
unfolding count
count-suc p q n x h = pigeonhole (passing q n) (x ∷ passing p n) (passing-distinct q n) (λ i m. let w = (passing-in q n i).0 m in
    ⊎_elim (λ e. Memᴰ.head e) (λ t. Memᴰ.tail ((passing-in p n i).1 (w.0, t))) (h i w.0 w.1))

-- none
pub count_none : (p : ℕ → Bool) (n : ℕ) → ((i : ℕ) → i < n → ¬ T (p i)) → count p n ≡ 0
unfolding count
count_none p n h = omega (arith, pigeonhole (passing p n) [] (passing-distinct p n) (λ i m. let w = (passing-in p n i).0 m in absurd (h i w.0 w.1)))

-- all of them
pub count-all : (p : ℕ → Bool) (n : ℕ) → ((i : ℕ) → i < n → T (p i)) → n ≤ count p n
unfolding count
count-all p n h = omega (
  arith,
  length-range n 0,
  pigeonhole (range n 0) (passing p n) (rising-distinct (range n 0) (range-rising n 0)) (λ i m. let l = (range-below n i).0 m in
      (passing-in p n i).1 (l, h i l)),
)

-- no more than of two others together
pub count-either : (q p r : ℕ → Bool) (n : ℕ) → ((i : ℕ) → i < n → T (q i) → T (p i) ⊎ T (r i)) → count q n ≤ count p n + count r n
unfolding count
count-either q p r n h = omega (
  arith,
  length-append (passing p n) (passing r n),
  pigeonhole (passing q n) (passing p n ++ passing r n) (passing-distinct q n) (λ i m. let w = (passing-in q n i).0 m in
      ⊎_elim (λ t. Memᴰ.append_left (passing r n) ((passing-in p n i).1 (w.0, t))) (λ t. Memᴰ.append_right (passing p n) ((passing-in r n i).1 (w.0, t)))
      (h i w.0 w.1)),
)

-- no more than there are
pub count_most : (p : ℕ → Bool) (n : ℕ) → count p n ≤ n
unfolding count
count_most p n = omega (
  arith,
  length-range n 0,
  pigeonhole (passing p n) (range n 0) (passing-distinct p n) (λ i m. (range-below n i).1 ((passing-in p n i).0 m).0),
)

-- what passes has distinct values from 1 to B: there are at most B
pub count-values : (p : ℕ → Bool) (n : ℕ) (f : ℕ → ℕ) (B : ℕ) → ((i j : ℕ) → i < n → j < n → T (p i) → T (p j) → f i ≡ f j → i ≡ j)
    → ((i : ℕ) → i < n → T (p i) → (1 ≤ f i) × (f i ≤ B)) → count p n ≤ B
unfolding count
count-values p n f B inj in-B = omega (arith, length-map (passing p n) f, pigeonhole (map f (passing p n)) (range B 1) one_each inside, length-range B 1)
  where
    one_each : Distinct (map f (passing p n))
    one_each = map-distinct f (passing p n) (passing-distinct p n) (λ i j m w e.
        let a = (passing-in p n i).0 m in
        let b = (passing-in p n j).0 w in
        inj i j a.0 b.0 a.1 b.1 e)

    inside : (y : ℕ) → Memᴰ y (map f (passing p n)) → Memᴰ y (range B 1)
    inside y m = map-mem⁻¹ (λ z. Memᴰ z (range B 1)) f (passing p n) (λ i w.
        let a = (passing-in p n i).0 w in
        let l = in-B i a.0 a.1 in
        range_all B 1 (f i) l.0 (omega (arith, l.1))) y m

-- ---- the largest of f 0, .., f (k - 1)

pub most-ge : (f : ℕ → ℕ) (k s : ℕ) → s < k → f s ≤ most f k
unfolding most
most-ge f zero s h = absurd (omega arith)
most-ge f (suc k) s h = go (ℕ_discrete s k) (λ l. most-ge f k s l)
  where
    go : Dec (s ≡ k) → (s < k → f s ≤ most f k) → f s ≤ max (f k) (most f k)
    go (yes e) r = rw e (omega arith)
    go (no e) r = omega (arith, r (omega arith))

pub most-le : (f : ℕ → ℕ) (k B : ℕ) → ((s : ℕ) → s < k → f s ≤ B) → most f k ≤ B
unfolding most
most-le f zero B h = omega arith
most-le f (suc k) B h = omega (arith, h k (omega arith), most-le f k B (λ s l. h s (omega arith)))

-- ---- the largest entry

pub at-largest : (t : List ℕ) (i : ℕ) → i < length t → at t i ≤ largest t
unfolding largest
at-largest [] i h = absurd (omega arith)
at-largest (x ∷ t) zero h = omega arith
at-largest (x ∷ t) (suc i) h = omega (arith, at-largest t i (omega arith))

-- past the end of a list its entries count as 0
pub at_most : (t : List ℕ) (i : ℕ) → at t i ≤ largest t
unfolding largest
at_most [] i = omega arith
at_most (x ∷ t) zero = omega arith
at_most (x ∷ t) (suc i) = omega (arith, at_most t i)

pub largest-lt : (t : List ℕ) (C : ℕ) → 0 < C → ((i : ℕ) → i < length t → at t i < C) → largest t < C
unfolding largest
largest-lt [] C p h = p
largest-lt (x ∷ t) C p h = omega (arith, h 0 (omega arith), largest-lt t C p (λ i k. h (suc i) (omega arith)))

-- lists with the same entries, up to zeros behind, have the same largest
pub largest-same : (s t : List ℕ) → ((i : ℕ) → at s i ≡ at t i) → largest s ≡ largest t
largest-same s t h = omega (
  arith,
  largest-lt s (suc (largest t)) (omega arith) (λ i _. omega (arith, h i, at_most t i)),
  largest-lt t (suc (largest s)) (omega arith) (λ i _. omega (arith, h i, at_most s i)),
)
