-- Arrays of which some entries are changed, the first entries of a list, and counts that differ by one. Assumes nothing.
use Rattle.std.specs.Prelude.{◌≡◌, ◌≢◌, ◌⊎◌, Bool, false, ℕ, zero, suc, ◌≤◌, ◌<◌, T, set, take}
use Rattle.std.proofs.Math.Path.{refl}
use Rattle.std.proofs.Common.{sym, ap, ◌∙◌, inl, inr, arith, get_or-set_same}
use mathlib.Core.List.Memᴰ
use mathlib.Core.List.{List, [], ◌∷◌, ◌++◌, Memᴰ}
use Rattle.std.proofs.Math.Decide.{ℕ_discrete}
use Rattle.std.proofs.Math.ListN.{length, length-set}
use Rattle.std.proofs.Math.Seq.{get_or-set_other}
use Rattle.rules.specs.Basics.{at, count, Distinct}
use Rattle.laws.specs.Counting.{count-le, count-lt, count-suc}
use Rattle.releases.specs.Peels.{each}

-- ---- some entries changed

module _ (f : ℕ → ℕ) where
  pub length-each : (xs l : List ℕ) → length (each f xs l) ≡ length l
  unfolding each
  length-each [] l = refl
  length-each (x ∷ xs) l = length-each xs (set l x (f (at l x))) ∙ length-set l x (f (at l x))

  -- the others stay
  pub each-other : (xs l : List ℕ) (k : ℕ) → ¬ (Memᴰ k xs) → at (each f xs l) k ≡ at l k
  unfolding each
  each-other [] l k new = refl
  each-other (x ∷ xs) l k new =
      each-other xs (set l x (f (at l x))) k (λ m. new (Memᴰ.tail m)) ∙ get_or-set_other l x k (f (at l x)) 0 (λ e. new (Memᴰ.head e))

  -- each is changed once, where none stands twice
  pub each_at : (xs l : List ℕ) → Distinct xs → ((x : ℕ) → Memᴰ x xs → x < length l) → (k : ℕ) → Memᴰ k xs → at (each f xs l) k ≡ f (at l k)
  unfolding each
  each_at [] l once below k m = absurd (Memᴰ.not-nil m)
  each_at (x ∷ xs) l once below k m = go (Memᴰ.cases_cons m) (each_at xs (set l x (f (at l x))) once.1 inside k)
    where
      inside : (y : ℕ) → Memᴰ y xs → y < length (set l x (f (at l x)))
      inside y w = omega (arith, below y (Memᴰ.tail w), length-set l x (f (at l x)))

      go : (k ≡ x) ⊎ Memᴰ k xs → (Memᴰ k xs → at (each f xs (set l x (f (at l x)))) k ≡ f (at (set l x (f (at l x))) k))
          → at (each f xs (set l x (f (at l x)))) k ≡ f (at l k)
      go (inl e) rest = rw e (each-other xs (set l x (f (at l x))) x once.0 ∙ get_or-set_same l x (f (at l x)) 0 (below x (Memᴰ.head refl)))
      go (inr w) rest = rest w ∙ ap f (get_or-set_other l x k (f (at l x)) 0 (λ e. once.0 (rw e at w)))

  -- one part after the other
  pub each_append : (xs ys l : List ℕ) → each f (xs ++ ys) l ≡ each f ys (each f xs l)
  unfolding each
  each_append [] ys l = refl
  each_append (x ∷ xs) ys l = each_append xs ys (set l x (f (at l x)))

-- ---- the first entries of a list

pub take-mem : (l : List ℕ) (m p : ℕ) → p < m → p < length l → Memᴰ (at l p) (take m l)
take-mem [] m p h k = absurd (omega arith)
take-mem (x ∷ l) zero p h k = absurd (omega arith)
take-mem (x ∷ l) (suc m) zero h k = Memᴰ.head refl
take-mem (x ∷ l) (suc m) (suc p) h k = Memᴰ.tail (take-mem l m p (omega arith) (omega arith))

pub take-index : (l : List ℕ) (m x : ℕ) → Memᴰ x (take m l) → (p : ℕ) × (p < m) × (p < length l) × (at l p ≡ x)
take-index [] zero x w = absurd (Memᴰ.not-nil w)
take-index [] (suc m) x w = absurd (Memᴰ.not-nil w)
take-index (y ∷ l) zero x w = absurd (Memᴰ.not-nil w)
take-index (y ∷ l) (suc m) x w = go (Memᴰ.cases_cons w) (take-index l m x)
  where
    go : (x ≡ y) ⊎ Memᴰ x (take m l) → (Memᴰ x (take m l) → (p : ℕ) × (p < m) × (p < length l) × (at l p ≡ x))
        → (p : ℕ) × (p < suc m) × (p < suc (length l)) × (at (y ∷ l) p ≡ x)
    go (inl e) rest = (0, omega arith, omega arith, sym e)
    go (inr v) rest = let (p, a, b, e) = rest v in (suc p, omega arith, omega arith, e)

-- more of them
pub take_more : (l : List ℕ) (m k x : ℕ) → m ≤ k → Memᴰ x (take m l) → Memᴰ x (take k l)
take_more l m k x h w = let (p, a, b, e) = take-index l m x w in rw e at (take-mem l k p (omega arith) b)

-- where none of them stands twice, each has one place
pub one_place : (l : List ℕ) (m p q : ℕ) → Distinct (take m l) → p < m → q < m → m ≤ length l → at l p ≡ at l q → p ≡ q
one_place [] m p q once a b h e = absurd (omega arith)
one_place (x ∷ l) zero p q once a b h e = absurd (omega arith)
one_place (x ∷ l) (suc m) zero zero once a b h e = refl
one_place (x ∷ l) (suc m) zero (suc q) once a b h e = absurd (once.0 (rw (← e) at (take-mem l m q (omega arith) (omega arith))))
one_place (x ∷ l) (suc m) (suc p) zero once a b h e = absurd (once.0 (rw e at (take-mem l m p (omega arith) (omega arith))))
one_place (x ∷ l) (suc m) (suc p) (suc q) once a b h e = ap suc (one_place l m p q once.1 (omega arith) (omega arith) (omega arith) e)

-- the first of two parts
pub distinct-front : (xs ys : List ℕ) → Distinct (xs ++ ys) → Distinct xs
distinct-front [] ys d = tt
distinct-front (x ∷ xs) ys d = (λ m. d.0 (Memᴰ.append_left ys m), distinct-front xs ys d.1)

-- ---- counts

-- one passes more
pub count-one : (p q : ℕ → Bool) (n x : ℕ) → x < n → ¬ T (p x) → T (q x) → ((i : ℕ) → i < n → i ≢ x → p i ≡ q i) → count q n ≡ suc (count p n)
count-one p q n x h a b same = omega (
  arith,
  count-lt p q n x (λ i l t. go i l t (ℕ_discrete i x)) h a b,
  count-suc p q n x (λ i l t. or i l t (ℕ_discrete i x)),
)
  where
    go : (i : ℕ) → i < n → T (p i) → Dec (i ≡ x) → T (q i)
    go i l t (yes e) = rw e b
    go i l t (no e) = rw (same i l e) at t

    or : (i : ℕ) → i < n → T (q i) → Dec (i ≡ x) → (i ≡ x) ⊎ T (p i)
    or i l t (yes e) = inl e
    or i l t (no e) = inr (rw (same i l e) t)

-- as many pass
pub count_same : (p q : ℕ → Bool) (n : ℕ) → ((i : ℕ) → i < n → p i ≡ q i) → count p n ≡ count q n
count_same p q n same = omega (arith, count-le p q n (λ i l t. rw (same i l) at t), count-le q p n (λ i l t. rw (same i l) t))

-- where none passes, and where one does
pub count-zero : (p : ℕ → Bool) (n i : ℕ) → count p n ≡ 0 → i < n → ¬ T (p i)
count-zero p n i e h t = omega (arith, count-lt (λ _. false) p n i (λ j l z. absurd z) h (λ z. z) t)
