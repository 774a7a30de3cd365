-- The places that a file's jobs get: jobs enter by release, and each takes the lowest place that no job with an open window has (greedy
-- colouring of an interval graph). Where no slot in which a job enters is in more than eight windows there is a place for every job, and
-- otherwise not. Assumes nothing.
-- More of what holds: proofs/Assign.antt.
use Rattle.std.specs.Prelude.{◌≡◌, ◌⊎◌, ◌↔◌, Bool, true, false}
use Rattle.std.proofs.Math.Path.{refl}
use Rattle.std.proofs.Common.{arith}
use Rattle.std.proofs.Math.Logic.{⊎_elim}
use mathlib.Core.List.Memᴰ
use mathlib.Core.List.{List, [], ◌∷◌, ◌++◌, Memᴰ}
use Prim.Native.Nat.{ℕ, zero, suc, ◌+◌, ◌≤◌, ◌<◌}
use Rattle.std.proofs.Math.Decide.{dec_lt, ℕ_discrete}
use Rattle.std.proofs.Math.Dec.{ltb, eqb}
use Rattle.rules.specs.Sizes.{max_width}
use Rattle.rules.specs.Basics.{choose, range, most, Distinct}
use Rattle.laws.specs.Tests.{T-eqb}
use Rattle.laws.specs.Lists.{filter-rising, range-rising}
use Rattle.laws.specs.Counting.{passing, passing-in, rising-distinct, most-ge, distinct_append}
use Rattle.jobset.specs.declared.Set.{Set}
use Rattle.jobset.specs.Sets.{member}
use Rattle.jobset.specs.Tests.{present}
use Rattle.places.specs.Seats.{seats_of}
use Rattle.places.specs.Windows.{Windows}

-- ---- the lowest free place, 8 where there is none

unfoldable pub free_from : ℕ → ℕ → Set → ℕ
free_from zero p S = p
free_from (suc k) p S = let rest = free_from k (suc p) S in choose (member S p) rest p

unfoldable pub free_place : Set → ℕ
free_place S = free_from max_width 0 S

-- p is the lowest place that S has not
pub record Lowest (S : Set) (p : ℕ) : Type 0 where
  pub at_most : p ≤ max_width
  pub is_free : p < max_width → member S p ≡ false
  pub below : (q : ℕ) → q < p → member S q ≡ true

free-from : (k p : ℕ) (S : Set) → k + p ≡ max_width → ((q : ℕ) → q < p → member S q ≡ true) → Lowest S (free_from k p S)
unfolding free_from choose
free-from zero p S e f = record { at_most = omega arith; is_free = λ l. absurd (omega arith); below = f }
free-from (suc k) p S e f = go (member S p) refl (free-from k (suc p) S (omega arith))
  where
    more : member S p ≡ true → (q : ℕ) → q < suc p → Dec (q ≡ p) → member S q ≡ true
    more m q l (yes z) = rw z m
    more m q l (no z) = f q (omega arith)

    go : (b : Bool) → member S p ≡ b → (((q : ℕ) → q < suc p → member S q ≡ true) → Lowest S (free_from k (suc p) S))
        → Lowest S (choose b (free_from k (suc p) S) p)
    go true m r = r (λ q l. more m q l (ℕ_discrete q p))
    go false m r = record { at_most = omega arith; is_free = λ l. m; below = f }

pub free-place : (S : Set) → Lowest S (free_place S)
unfolding free_place
free-place S = free-from max_width 0 S refl (λ q l. absurd (omega arith))

-- and the only one
pub lowest-only : (S : Set) (p q : ℕ) → Lowest S p → Lowest S q → p ≡ q
lowest-only S p q a b = go (dec_lt p q) (dec_lt q p)
  where
    go : Dec (p < q) → Dec (q < p) → p ≡ q
    go (yes l) d = absurd (present (member S p) (b.below p l) (a.is_free (omega (arith, b.at_most))))
    go (no l) (yes m) = absurd (present (member S q) (a.below q m) (b.is_free (omega (arith, a.at_most))))
    go (no l) (no m) = omega arith

-- ---- jobs one after the other

-- π with place p for job i
unfoldable pub giving : (ℕ → ℕ) → ℕ → ℕ → ℕ → ℕ
giving π i p j = choose (eqb j i) p (π j)

-- the places that are held when a job enters slot s, `before` having entered: of those whose windows go on
unfoldable pub taken : Windows → (ℕ → ℕ) → List ℕ → ℕ → Set
taken W π before s = seats_of π (λ j. ltb s (W.d j)) before

unfoldable pub assign : Windows → List ℕ → List ℕ → (ℕ → ℕ) → ℕ → ℕ
assign W before [] π = π
assign W before (i ∷ js) π = assign W (i ∷ before) js (giving π i (free_place (taken W π before (W.r i))))

-- the places of all jobs, entering in this order
unfoldable pub assigned : Windows → List ℕ → ℕ → ℕ
assigned W order = assign W [] order (λ i. max_width)

-- an order in which jobs may enter: each job once, releases never falling
abbrev pub ByRelease : Windows → List ℕ → Type 0
ByRelease W [] = Unit {0}
ByRelease W (i ∷ js) = ((j : ℕ) → Memᴰ j js → W.r i ≤ W.r j) × ByRelease W js

pub record Entering (W : Windows) (order : List ℕ) : Type 0 where
  pub all : (i : ℕ) → Memᴰ i order ↔ (i < W.n)
  pub distinct : Distinct order
  pub by-release : ByRelease W order

-- each job with a window has a place
abbrev pub Enough : Windows → List ℕ → Type 0
Enough W order = (i : ℕ) → i < W.n → W.r i < W.d i → assigned W order i < max_width

-- ---- each place, said of all places: the lowest that no job before it in the order has whose window goes on

pub seats-same : (π ρ : ℕ → ℕ) (t : ℕ → Bool) (H : List ℕ) → ((j : ℕ) → Memᴰ j H → π j ≡ ρ j) → seats_of π t H ≡ seats_of ρ t H
unfolding seats_of
seats-same π ρ t [] f = refl
seats-same π ρ t (i ∷ H) f = rw (f i (Memᴰ.head refl), seats-same π ρ t H (λ j m. f j (Memᴰ.tail m))) refl

-- ---- such an order: by release, then by number

-- those released before slot m
unfoldable pub entering : Windows → ℕ → List ℕ
entering W zero = []
entering W (suc m) = entering W m ++ passing (λ i. eqb (W.r i) m) W.n

module _ (W : Windows) where
  in-entering : (m i : ℕ) → Memᴰ i (entering W m) ↔ ((i < W.n) × (W.r i < m))
  unfolding entering
  in-entering zero i = (λ m. absurd (Memᴰ.not-nil m), λ w. absurd (omega (arith, w.1)))
  in-entering (suc m) i = let r = in-entering m i in let w = passing-in (λ i. eqb (W.r i) m) W.n i in (
    λ k. ⊎_elim (λ a. ((r.0 a).0, omega (arith, (r.0 a).1))) (λ a. let v = w.0 a in (v.0, omega (arith, (T-eqb (W.r i) m).0 v.1)))
        (Memᴰ.append_cases (entering W m) k),
    λ k. pick r.1 k.0 k.1 (dec_lt (W.r i) m),
  )
    where
      pick : ((i < W.n) × (W.r i < m) → Memᴰ i (entering W m)) → i < W.n → W.r i < suc m → Dec (W.r i < m)
          → Memᴰ i (entering W m ++ passing (λ i. eqb (W.r i) m) W.n)
      pick f l h (yes q) = Memᴰ.append_left (passing (λ i. eqb (W.r i) m) W.n) (f (l, q))
      pick f l h (no q) = Memᴰ.append_right (entering W m) ((passing-in (λ i. eqb (W.r i) m) W.n i).1 (l, (T-eqb (W.r i) m).1 (omega arith)))

  at_slot : (m i : ℕ) → Memᴰ i (passing (λ i. eqb (W.r i) m) W.n) → W.r i ≡ m
  at_slot m i k = (T-eqb (W.r i) m).0 ((passing-in (λ i. eqb (W.r i) m) W.n i).0 k).1

  entering-distinct : (m : ℕ) → Distinct (entering W m)
  unfolding entering
  entering-distinct zero = tt
  entering-distinct (suc m) = distinct_append (entering W m) (passing (λ i. eqb (W.r i) m) W.n) (entering-distinct m)
      (rising-distinct (passing (λ i. eqb (W.r i) m) W.n) (filter-rising (λ i. eqb (W.r i) m) (range W.n 0) (range-rising W.n 0)))
      (λ i a b. omega (arith, ((in-entering m i).0 a).1, at_slot m i b))

  by_append : (xs ys : List ℕ) → ByRelease W xs → ByRelease W ys → ((i j : ℕ) → Memᴰ i xs → Memᴰ j ys → W.r i ≤ W.r j) → ByRelease W (xs ++ ys)
  by_append [] ys a b f = b
  by_append (x ∷ xs) ys a b f = (
    λ j m. ⊎_elim (a.0 j) (f x j (Memᴰ.head refl)) (Memᴰ.append_cases xs m),
    by_append xs ys a.1 b (λ i j m. f i j (Memᴰ.tail m)),
  )

  by-same : (m : ℕ) (xs : List ℕ) → ((i : ℕ) → Memᴰ i xs → W.r i ≡ m) → ByRelease W xs
  by-same m [] f = tt
  by-same m (x ∷ xs) f = (λ j k. omega (arith, f x (Memᴰ.head refl), f j (Memᴰ.tail k)), by-same m xs (λ i k. f i (Memᴰ.tail k)))

  entering-by : (m : ℕ) → ByRelease W (entering W m)
  unfolding entering
  entering-by zero = tt
  entering-by (suc m) = by_append (entering W m) (passing (λ i. eqb (W.r i) m) W.n) (entering-by m)
      (by-same m (passing (λ i. eqb (W.r i) m) W.n) (at_slot m))
      (λ i j a b. omega (arith, ((in-entering m i).0 a).1, at_slot m j b))

  pub entering-is : Entering W (entering W (most (λ i. suc (W.r i)) W.n))
  entering-is = record {
    all = λ i. let w = in-entering (most (λ i. suc (W.r i)) W.n) i in
        (λ m. (w.0 m).0, λ l. w.1 (l, omega (arith, most-ge (λ i. suc (W.r i)) W.n i l)));
    distinct = entering-distinct (most (λ i. suc (W.r i)) W.n);
    by-release = entering-by (most (λ i. suc (W.r i)) W.n);
  }
