-- The numbers with just so many binary digits 1, in falling order. A number takes as many places of a row of at most eight as it has digits 1,
-- so no other number need be tried. Assumes nothing.
use Rattle.std.proofs.Common.{eqb-true, ne_eqb, sym, ap, ◌∙◌, true≢false, ⊎_elim}
use Rattle.std.specs.Prelude.{◌≡◌, Bool, ◌&&◌, ◌↔◌, ltb, leb, length, Option, None, Some}
use Rattle.std.proofs.Math.Path.{refl}
use Rattle.std.proofs.Math.Bool.{true, false}
use mathlib.Core.List.Memᴰ
use mathlib.Core.List.{List, [], ◌∷◌, map, Memᴰ}
use Prim.Native.Nat.{ℕ, zero, suc, ◌+◌, ◌-◌, ◌^◌, ◌≤◌, ◌<◌}
use Rattle.std.proofs.Math.Decide.{ℕ_discrete}
use native.Mathlib.Omega.{arith}
use Rattle.std.specs.Int.Count.{count_trailing_zeros}
use Rattle.std.proofs.Math.Dec.{T, eqb}
use Rattle.std.proofs.lemmas.List.{length-map}
use Rattle.rules.specs.Sizes.{max_width}
use Rattle.rules.specs.Basics.{choose, at, all, range}
use Rattle.laws.specs.Tests.{T-all, T-eqb, tests}
use Rattle.laws.specs.Counting.{range-below}
use Rattle.jobset.specs.declared.Set.{Set}
use Rattle.jobset.specs.Sets.{digit, member, intersection, is_empty, lowest}
use Rattle.jobset.specs.Tests.{absent, present}
use Rattle.places.specs.Rows.{bit-low, chosen, picks, is_try, tried_below}
use Rattle.placesets.specs.Listing.{row_from, row-length}
use Rattle.layout.specs.Layout.{place_sets}

-- the members of x below k, falling
unfoldable pub falling_from : ℕ → Set → List ℕ
falling_from zero x = []
falling_from (suc k) x =
    let rest = falling_from k x in
    choose (member x k) (k ∷ rest) rest

-- a set with no member below k has none there
pub none-falling : (k : ℕ) (x : Set) → ((j : ℕ) → j < k → member x j ≡ false) → falling_from k x ≡ []
unfolding falling_from choose
none-falling zero x h = refl
none-falling (suc k) x h = rw (h k (omega arith)) (none-falling k x (λ j l. h j (omega arith)))

-- they are at most k
few-falling : (k : ℕ) (x : Set) → length (falling_from k x) ≤ k
unfolding falling_from choose
few-falling zero x = omega arith
few-falling (suc k) x = go (member x k) (few-falling k x)
  where
    go : (a : Bool) → length (falling_from k x) ≤ k → length (choose a (k ∷ falling_from k x) (falling_from k x)) ≤ suc k
    go true ih = omega arith
    go false ih = omega arith

-- the digits 1 of a number below 256
unfoldable pub digits_of : ℕ → ℕ
digits_of n = length (falling_from max_width (record { bits = n }))

-- one more than the highest number below b with just so many digits 1; 0 where there is none
unfoldable pub end_below : ℕ → ℕ → ℕ
end_below count zero = 0
end_below count (suc n) =
    let rest = end_below count n in
    choose (eqb (digits_of n) count) (suc n) rest

-- ---- its laws

module _ (count : ℕ) where
  pub end-le : (b : ℕ) → end_below count b ≤ b
  unfolding end_below choose
  end-le zero = omega arith
  end-le (suc n) = go (eqb (digits_of n) count) (end-le n)
    where
      go : (t : Bool) → end_below count n ≤ n → choose t (suc n) (end_below count n) ≤ suc n
      go true l = omega arith
      go false l = omega arith

  -- the number right below it has so many
  end-many : (b m : ℕ) → end_below count b ≡ suc m → digits_of m ≡ count
  unfolding end_below choose
  end-many zero m e = absurd (omega arith)
  end-many (suc n) m e = go (eqb (digits_of n) count) refl (end-many n m) e
    where
      go : (t : Bool) → eqb (digits_of n) count ≡ t → (end_below count n ≡ suc m → digits_of m ≡ count)
          → choose t (suc n) (end_below count n) ≡ suc m → digits_of m ≡ count
      go true q r e = let z : n ≡ m = omega arith in rw (← z) (eqb-true (digits_of n) count q)
      go false q r e = r e

  -- there is none
  end_none : (b : ℕ) → ((n : ℕ) → n < b → digits_of n ≡ count → ⊥) → end_below count b ≡ 0
  unfolding end_below choose
  end_none zero f = refl
  end_none (suc n) f = rw (ne_eqb (digits_of n) count (f n (omega arith))) (end_none n (λ m l. f m (omega arith)))

-- ---- the numbers, in falling order

-- those below b with just so many digits 1
unfoldable pub numbers_below : ℕ → ℕ → List Set
numbers_below count zero = []
numbers_below count (suc n) =
    let rest = numbers_below count n in
    choose (eqb (digits_of n) count) (record { bits = n } ∷ rest) rest

-- one and those below it with as many; none of none
abbrev pub numbers_from : Option ℕ → List Set
numbers_from None = []
numbers_from (Some n) = record { bits = n } ∷ numbers_below (digits_of n) n

-- one more than the first; 0 where there is none
abbrev pub end_of : List Set → ℕ
end_of [] = 0
end_of (x ∷ xs) = suc x.bits

module _ (count : ℕ) where
  pub end-of-numbers : (b : ℕ) → end_of (numbers_below count b) ≡ end_below count b
  unfolding end_below numbers_below choose
  end-of-numbers zero = refl
  end-of-numbers (suc n) = go (eqb (digits_of n) count) (end-of-numbers n)
    where
      go : (t : Bool) → end_of (numbers_below count n) ≡ end_below count n
          → end_of (choose t (record { bits = n } ∷ numbers_below count n) (numbers_below count n)) ≡ choose t (suc n) (end_below count n)
      go true e = refl
      go false e = e

  -- there is none below the end 0
  pub numbers-none : (b : ℕ) → end_below count b ≡ 0 → numbers_below count b ≡ []
  unfolding end_below numbers_below choose
  numbers-none zero e = refl
  numbers-none (suc n) e = go (eqb (digits_of n) count) (numbers-none n) e
    where
      go : (t : Bool) → (end_below count n ≡ 0 → numbers_below count n ≡ []) → choose t (suc n) (end_below count n) ≡ 0
          → choose t (record { bits = n } ∷ numbers_below count n) (numbers_below count n) ≡ []
      go true r e = absurd (omega arith)
      go false r e = r e

  -- the first is right below the end
  numbers-first : (b m : ℕ) → end_below count b ≡ suc m → numbers_below count b ≡ record { bits = m } ∷ numbers_below count m
  unfolding end_below numbers_below choose
  numbers-first zero m e = absurd (omega arith)
  numbers-first (suc n) m e = go (eqb (digits_of n) count) (numbers-first n m) e
    where
      go : (t : Bool) → (end_below count n ≡ suc m → numbers_below count n ≡ record { bits = m } ∷ numbers_below count m)
          → choose t (suc n) (end_below count n) ≡ suc m
          → choose t (record { bits = n } ∷ numbers_below count n) (numbers_below count n) ≡ record { bits = m } ∷ numbers_below count m
      go true r e = let z : n ≡ m = omega arith in ap (λ (k : ℕ). record { bits = k } ∷ numbers_below count k) z
      go false r e = r e

  pub numbers-some : (b m : ℕ) → end_below count b ≡ suc m → numbers_from (Some m) ≡ numbers_below count b
  numbers-some b m e =
      ap (λ (k : ℕ). record { bits = m } ∷ numbers_below k m) (end-many count b m e) ∙ sym (numbers-first b m e)

-- a turn: behind the number that is taken off come those below it with as many
pub numbers-turn : (o p : Option ℕ) (x : Set) → numbers_from o ≡ x ∷ numbers_from p → numbers_from p ≡ numbers_below (digits_of x.bits) x.bits
numbers-turn None p x e = cc
numbers-turn (Some n) p x e =
    let z : record { bits = n } ≡ x = cc in
    let t : numbers_from p ≡ numbers_below (digits_of n) n = cc in
    t ∙ ap (λ (y : Set). numbers_below (digits_of y.bits) y.bits) z

-- the end of what is left then
pub end-turn : (o p : Option ℕ) (x : Set) → numbers_from o ≡ x ∷ numbers_from p → end_of (numbers_from p) ≡ end_below (digits_of x.bits) x.bits
end-turn o p x e = ap end_of (numbers-turn o p x e) ∙ end-of-numbers (digits_of x.bits) x.bits

-- n is the end of the numbers with so many digits 1 below 2 ^ size, or below one of these
pub record Ended (count size n : ℕ) : Type 0 where
  pub below : ℕ
  pub within : below ≤ 2 ^ size
  pub is-end : n ≡ end_below count below

-- the number right below the end
module _ {count size m : ℕ} (g : Ended count size (suc m)) where
  pub ended-low : m < 2 ^ size
  ended-low = omega (arith, g.is-end, g.within, end-le count g.below)

  pub ended-many : digits_of m ≡ count
  ended-many = end-many count g.below m (sym g.is-end)

  -- so is the next end
  pub ended-next : (n : ℕ) → n ≡ end_below (digits_of m) m → Ended count size n
  ended-next n e = record { below = m; within = omega (arith, ended-low); is-end = e ∙ rw ended-many refl }

-- ---- the places that a number takes

pub in-falling : (k : ℕ) (x : Set) (j : ℕ) → Memᴰ j (falling_from k x) ↔ ((j < k) × (member x j ≡ true))
unfolding falling_from choose
in-falling zero x j = (λ m. absurd (Memᴰ.not-nil m), λ w. absurd (omega arith))
in-falling (suc k) x j = go (member x k) refl (in-falling k x j) (ℕ_discrete j k)
  where
    go : (b : Bool) → member x k ≡ b → Memᴰ j (falling_from k x) ↔ ((j < k) × (member x j ≡ true)) → Dec (j ≡ k)
        → Memᴰ j (choose b (k ∷ falling_from k x) (falling_from k x)) ↔ ((j < suc k) × (member x j ≡ true))
    go true e r (yes z) = (λ m. (omega arith, rw z e), λ w. Memᴰ.head z)
    go true e r (no n) = (
      λ m. ⊎_elim (λ z. absurd (n z)) (λ w. (omega (arith, (r.0 w).0), (r.0 w).1)) (Memᴰ.cases_cons m),
      λ w. Memᴰ.tail (r.1 (omega arith, w.1)),
    )
    go false e r (yes z) = (λ m. absurd (omega (arith, (r.0 m).0)), λ w. absurd (present (member x k) (rw z at w.1) e))
    go false e r (no n) = (λ m. (omega (arith, (r.0 m).0), (r.0 m).1), λ w. r.1 (omega arith, w.1))

pub chosen-falling : (a : List ℕ) (k : ℕ) (x : Set) → chosen (row_from a k) x ≡ map (at a) (falling_from k x)
unfolding chosen row_from falling_from choose
chosen-falling a zero x = refl
chosen-falling a (suc k) x = rw (row-length a k) (go (member x k) (chosen-falling a k x))
  where
    go : (b : Bool) → chosen (row_from a k) x ≡ map (at a) (falling_from k x)
        → choose b (at a k ∷ chosen (row_from a k) x) (chosen (row_from a k) x) ≡ map (at a) (choose b (k ∷ falling_from k x) (falling_from k x))
    go true e = ap (λ (l : List ℕ). at a k ∷ l) e
    go false e = e

-- a number below 2 ^ m has no digits from m on
falling-low : (m k : ℕ) (x : Set) → m ≤ k → x.bits < 2 ^ m → falling_from k x ≡ falling_from m x
unfolding falling_from choose
falling-low m zero x l h = let z : 0 ≡ m = omega arith in ap (λ (j : ℕ). falling_from j x) z
falling-low m (suc k) x l h = go (ℕ_discrete m (suc k)) (falling-low m k x)
  where
    go : Dec (m ≡ suc k) → (m ≤ k → x.bits < 2 ^ m → falling_from k x ≡ falling_from m x)
        → choose (member x k) (k ∷ falling_from k x) (falling_from k x) ≡ falling_from m x
    go (yes e) r = ap (λ (j : ℕ). falling_from j x) (sym e)
    go (no n) r = rw (absent (member x k) (λ w. omega (arith, bit-low x m k h w))) (r (omega arith) h)

-- the places behind those of a row do not matter
pub chosen-low : (a : List ℕ) (m : ℕ) (x : Set) → m ≤ max_width → x.bits < 2 ^ m → chosen (row_from a max_width) x ≡ chosen (row_from a m) x
chosen-low a m x l h = chosen-falling a max_width x ∙ ap (map (at a)) (falling-low m max_width x l h) ∙ sym (chosen-falling a m x)

-- they are as many as its digits 1
pub chosen-many : (a : List ℕ) (n : ℕ) → length (picks (row_from a max_width) n) ≡ digits_of n
unfolding digits_of
chosen-many a n = ap length (chosen-falling a max_width (record { bits = n })) ∙ length-map (falling_from max_width (record { bits = n })) (at a)

digits-few : (m n : ℕ) → m ≤ max_width → n < 2 ^ m → digits_of n ≤ m
unfolding digits_of
digits-few m n l h = rw (falling-low m max_width (record { bits = n }) l h) (few-falling m (record { bits = n }))

-- ---- the tries by other numbers

module _ (near : ℕ → Set) (a : List ℕ) (m count : ℕ) (l : m ≤ max_width) where
  not-many : (n : ℕ) → n < 2 ^ m → eqb (digits_of n) count ≡ false → is_try near count (picks (row_from a m) n) ≡ false
  unfolding is_try
  not-many n h e = rw (← (chosen-low a m (record { bits = n }) l h), chosen-many a n, e)

  -- the tries by numbers below b are those by numbers below the end
  pub tried-end : (b : ℕ) → b ≤ 2 ^ m → tried_below near (row_from a m) count (end_below count b) ≡ tried_below near (row_from a m) count b
  unfolding end_below tried_below choose
  tried-end zero h = refl
  tried-end (suc n) h = go (eqb (digits_of n) count) refl (tried-end n)
    where
      go : (t : Bool) → eqb (digits_of n) count ≡ t
          → (n ≤ 2 ^ m → tried_below near (row_from a m) count (end_below count n) ≡ tried_below near (row_from a m) count n)
          → tried_below near (row_from a m) count (choose t (suc n) (end_below count n)) ≡ tried_below near (row_from a m) count (suc n)
      go true e r = refl
      go false e r = rw (not-many n (omega arith) e) (r (omega arith))

-- ---- as the code finds it

-- below 2 ^ size, where a number of so many digits has so many
pub end-first : (size count : ℕ) → size ≤ max_width → count ≤ size → end_below count (2 ^ size) ≡ 2 ^ size - 2 ^ (size - count) + 1
end-first size count h l =
    (T-eqb (end size count) (from size count)).0
    ((T-all (λ k. eqb (end size k) (from size k)) (range (suc size) 0)).0
    ((T-all (λ m. all (λ k. eqb (end m k) (from m k)) (range (suc m) 0)) (range 9 0)).0 passes size ((range-below 9 size).1 (omega arith)))
    count ((range-below (suc size) count).1 (omega arith)))
  where
    end : ℕ → ℕ → ℕ
    end m k = end_below k (2 ^ m)

    from : ℕ → ℕ → ℕ
    from m k = 2 ^ m - 2 ^ (m - k) + 1

    passes : T (all (λ m. all (λ k. eqb (end m k) (from m k)) (range (suc m) 0)) (range 9 0))
    passes = unfold all range end_below digits_of falling_from member digit choose in tt

pub end-too-many : (size count : ℕ) → size ≤ max_width → size < count → end_below count (2 ^ size) ≡ 0
end-too-many size count h l = end_none count (2 ^ size) (λ n k e. omega (arith, digits-few size n h k))

-- below a number with as many as it has. One more than n has the lowest 0 of n and no 1 below it; `upper` is n without its digits 1 below that
abbrev pub above : ℕ → Set
above n = record { bits = n + 1 }

abbrev pub upper : ℕ → Set
upper n = intersection (record { bits = n }) (above n)

-- where it is not empty its lowest 1 moves down by one, and the digits 1 that it leaves out stand right behind that: this comes off
abbrev pub taken_off : ℕ → ℕ
taken_off n = 2 ^ (lowest (upper n) - lowest (above n) - 1)

-- what the code needs of them, as a test and as facts
moves : ℕ → Bool
moves n =
    ltb (lowest (above n)) (lowest (upper n)) && ltb (lowest (upper n)) 9 && leb (taken_off n) (upper n).bits
    && eqb (end_below (digits_of n) n) ((upper n).bits - taken_off n + 1)

pub record Moves (n : ℕ) : Type 0 where
  pub higher : lowest (above n) < lowest (upper n)
  pub low : lowest (upper n) < 9
  pub room : taken_off n ≤ (upper n).bits
  pub end_is : end_below (digits_of n) n ≡ (upper n).bits - taken_off n + 1

-- the end below n is found so
is_next : ℕ → Bool
is_next n = choose (is_empty (upper n)) (eqb (end_below (digits_of n) n) 0) (moves n)

-- one test over all numbers
all-next : T (all is_next (range place_sets 0))
unfolding all range is_next moves end_below digits_of falling_from member digit choose intersection is_empty lowest count_trailing_zeros
all-next = tt

module _ (n : ℕ) (h : n < place_sets) where
  passes : ((is_empty (upper n) ≡ true) → end_below (digits_of n) n ≡ 0) × ((is_empty (upper n) ≡ false) → T (moves n))
  unfolding is_next choose
  passes = go (is_empty (upper n)) ((T-all is_next (range place_sets 0)).0 all-next n ((range-below place_sets n).1 h))
    where
      go : (b : Bool) → T (choose b (eqb (end_below (digits_of n) n) 0) (moves n))
          → (b ≡ true → end_below (digits_of n) n ≡ 0) × (b ≡ false → T (moves n))
      go true t = (λ _. (T-eqb (end_below (digits_of n) n) 0).0 t, λ e. absurd (true≢false e))
      go false t = (λ e. absurd (true≢false (sym e)), λ _. t)

  -- no lower number has as many
  pub end-last : is_empty (upper n) ≡ true → end_below (digits_of n) n ≡ 0
  end-last = passes.0

  pub end-next : is_empty (upper n) ≡ false → Moves n
  unfolding moves
  end-next e =
      let w : ((((lowest (above n) < lowest (upper n)) × (lowest (upper n) < 9)) × (taken_off n ≤ (upper n).bits))
      × (end_below (digits_of n) n ≡ (upper n).bits - taken_off n + 1)) = simp tests at (passes.1 e) in
      record { higher = w.0.0.0; low = w.0.0.1; room = w.0.1; end_is = w.1 }
