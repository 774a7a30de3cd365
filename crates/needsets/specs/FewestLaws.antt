-- Trying every start list by its index gives the rules' fewest slots. Assumes nothing.
use Rattle.std.specs.Prelude.{◌≡◌, ◌⊎◌, ◌↔◌, Bool, true, false, T, eqb, Option, Some}
use Rattle.std.proofs.Math.Path.{refl, ap}
use Rattle.std.proofs.Common.{sym, ap₂, subst, ◌∙◌, inl, inr, arith, div-lt_iff_lt-mul}
use mathlib.Core.List.Memᴰ
use mathlib.Core.List.{List, [], ◌∷◌, map, Memᴰ}
use Rattle.std.proofs.Math.Option.{Option as Maybe, none, some}
use Prim.Native.Nat.{ℕ, zero, suc, ◌+◌, ◌*◌, ◌^◌, ◌/◌, ◌%◌, ◌≤◌, ◌<◌}
use Rattle.std.proofs.Math.Decide.{ℕ_discrete}
use Rattle.std.proofs.Math.Nat.{zero-div, zero-mod, mod-lt, pow-zero, pow-suc}
use Rattle.std.proofs.Math.Dec.{eqb_refl}
use Rattle.rules.specs.Basics.{choose, at, filter}
use Rattle.rules.specs.Needs.{Need, Gives}
use Rattle.rules.specs.Program.{slots, Fits, Kept, keptb}
use Rattle.rules.specs.Preference.{start_lists}
use Rattle.rules.specs.SmallGates.{bit, need_bit, needs_of, smaller, least_of, fewest}
use Rattle.laws.specs.Tests.{tests, T-eqb, bool-ext}
use Rattle.laws.specs.Lists.{map-mem, map-mem⁻¹, filter-mem, filter-mem⁻¹}
use Rattle.laws.specs.Counting.{range-below, largest-same}
use Rattle.laws.specs.Program.{kept-is}
use Rattle.laws.specs.Best.{start-lists-all, start-lists-fit}
use Rattle.laws.specs.Pairs.{pair-first, pair-second, pair-before}
use Rattle.laws.specs.SmallGates.{bit-giver, bit-taker, bit_in, of-bit, needs-are}
use Rattle.laws.specs.Fewest.{least-same}
use Rattle.needsets.specs.Starts.{digits, starts_next, conflicts, conflict_free, keeps, keeping, as_option, or_less, least_with, fewest_by}

-- ---- the test of every place, and the rules' test of the needs

module _ (n m : ℕ) (t : List ℕ) where
  -- what `conflicts` says, of the need at j with giver g and taker k
  abbrev Conflict : ℕ → ℕ → ℕ → ℕ → Type 0
  Conflict j g k e = (e ≡ j → ⊥) × (T (bit m e) × ((at t (e / n) + 1 ≡ at t (e % n)) × (T (eqb (e / n) g) ⊎ T (eqb (e % n) k))))

  -- what `keeps` says of it
  abbrev Keeps : ℕ → ℕ → ℕ → Type 0
  Keeps j g k = T (bit m j) → (at t g < at t k) × (at t g + 1 ≡ at t k → (e : ℕ) → e < n * n → Conflict j g k e → ⊥)

  -- what `keeping` says: so of every place, by its giver and taker
  keeping-says : T (keeping n m t) ↔ ((j : ℕ) → j < n * n → Keeps j (j / n) (j % n))
  unfolding keeping keeps conflict_free conflicts starts_next
  keeping-says = (λ h. simp (tests, range-below) at h, λ h. simp (tests, range-below) h)

  -- where a bit below n * n is set there is a need
  need-at : (j : ℕ) → j < n * n → T (bit m j) → Gives (needs_of n m) (j / n) (j % n)
  need-at j h b = let w = of-bit n j h in (needs-are n m (j / n) (j % n)).1 (w.0, w.1, subst (λ (e : ℕ). T (bit m e)) (sym w.2) b)

  -- that gives the three sentences
  keeping-kept : ((j : ℕ) → j < n * n → Keeps j (j / n) (j % n)) → Kept (Gives (needs_of n m)) (at t)
  keeping-kept h = record {
    later = λ g k a. omega (arith, (at-need g k a ((needs-are n m g k).0 a).2).0);
    give-one = λ g j k a b p q. (one-need g j g k a b (sym p) (sym q) (inl (eqb_refl g))).1;
    take-one = λ i j k a b p q. (one-need i k j k a b p q (inr (eqb_refl k))).0;
  }
    where
      -- where a need stands
      place : ℕ → ℕ → ℕ
      place g k = need_bit n (g, k)

      -- what the test says of a need
      at-need : (g k : ℕ) → Gives (needs_of n m) g k → Keeps (place g k) g k
      at-need g k a = let w = (needs-are n m g k).0 a in rw (bit-giver n g k w.1, bit-taker n g k w.1) at (h (place g k) (bit_in n g k w.0 w.1))

      -- two needs of one giver or of one taker, both with their takers right after their givers, are one
      one-need : (g j i k : ℕ) → Gives (needs_of n m) g j → Gives (needs_of n m) i k → at t g + 1 ≡ at t j → at t i + 1 ≡ at t k
          → T (eqb i g) ⊎ T (eqb k j) → (g ≡ i) × (j ≡ k)
      one-need g j i k a b p q o = go (ℕ_discrete (place i k) (place g j))
        where
          v : (g < n) × (j < n) × T (bit m (place g j))
          v = (needs-are n m g j).0 a

          w : (i < n) × (k < n) × T (bit m (place i k))
          w = (needs-are n m i k).0 b

          go : Dec (place i k ≡ place g j) → (g ≡ i) × (j ≡ k)
          go (yes e) = (
            sym (bit-giver n g j v.1) ∙ ap (λ (x : ℕ). x / n) (sym e) ∙ bit-giver n i k w.1,
            sym (bit-taker n g j v.1) ∙ ap (λ (x : ℕ). x % n) (sym e) ∙ bit-taker n i k w.1,
          )
          go (no e) =
              absurd ((at-need g j a v.2).1 p (place i k) (bit_in n i k w.0 w.1) (
                e,
                (w.2, rw (bit-giver n i k w.1, bit-taker n i k w.1) (q, o)),
              ))

  -- and the three sentences give that for every place
  kept-keeping : Kept (Gives (needs_of n m)) (at t) → (j : ℕ) → j < n * n → Keeps j (j / n) (j % n)
  kept-keeping k j h b = (
    omega (arith, k.later (j / n) (j % n) (need-at j h b)),
    λ p e l c. c.0 (sym (of-bit n e l).2 ∙ ap (need_bit n) (same p e (need-at e l c.1.0) c.1.1.0 c.1.1.1) ∙ (of-bit n j h).2),
  )
    where
      -- a need with the giver or the taker of the one at j, both with their takers right after their givers, is that one
      same : at t (j / n) + 1 ≡ at t (j % n) → (e : ℕ) → Gives (needs_of n m) (e / n) (e % n) → at t (e / n) + 1 ≡ at t (e % n)
          → T (eqb (e / n) (j / n)) ⊎ T (eqb (e % n) (j % n)) → ◌≡◌ {A = Need} (e / n, e % n) (j / n, j % n)
      same p e a q (inl o) =
          let s = (T-eqb (e / n) (j / n)).0 o in
          λ i. (s i, k.give-one (j / n) (e % n) (j % n) (rw s at a) (need-at j h b) (rw s at (sym q)) (sym p) i)
      same p e a q (inr o) =
          let s = (T-eqb (e % n) (j % n)).0 o in
          λ i. (k.take-one (e / n) (j / n) (j % n) (rw s at a) (need-at j h b) (rw s at q) p i, s i)

  -- the test by places is the test by needs
  pub keeping-is : keeping n m t ≡ keptb (needs_of n m) t
  keeping-is =
      bool-ext (keeping n m t) (keptb (needs_of n m) t) (λ h. (kept-is (needs_of n m) t).1 (keeping-kept (keeping-says.0 h)))
      (λ h. keeping-says.1 (kept-keeping ((kept-is (needs_of n m) t).0 h)))

-- ---- start lists that differ in zeros behind

-- they have the same slots
slots_same : (s t : List ℕ) → ((i : ℕ) → at s i ≡ at t i) → slots s ≡ slots t
unfolding slots
slots_same s t h = ap suc (largest-same s t h)

-- and keep the same needs
kept_same : (needs : List Need) (s t : List ℕ) → ((i : ℕ) → at s i ≡ at t i) → T (keptb needs s) → T (keptb needs t)
kept_same needs s t h k = (kept-is needs t).1 (subst (Kept (Gives needs)) (λ j i. h i j) ((kept-is needs s).0 k))

-- ---- start lists by their index

module _ (b : ℕ) where
  -- 0 has no digit but 0
  digits-zero : (w i : ℕ) → at (digits b w 0) i ≡ 0
  unfolding digits
  digits-zero zero i = refl
  digits-zero (suc w) zero = zero-mod b
  digits-zero (suc w) (suc i) = ap (λ (c : ℕ). at (digits b w c) i) (zero-div b) ∙ digits-zero w i

  -- each list of w numbers below b is that of a number below b ^ w
  pub digits-all : (w : ℕ) (t : List ℕ) → Fits w b t → (c : ℕ) × (c < b ^ w) × (digits b w c ≡ t)
  unfolding digits
  digits-all zero [] f = (0, omega (arith, pow-zero b), refl)
  digits-all zero (x ∷ t) f = absurd (omega (arith, f.len))
  digits-all (suc w) [] f = absurd (omega (arith, f.len))
  digits-all (suc w) (x ∷ t) f = go (digits-all w t record { len = omega (arith, f.len); below = λ i h. f.below (suc i) (omega arith) })
    where
      low : x < b
      low = f.below 0 (omega arith)

      go : (c : ℕ) × (c < b ^ w) × (digits b w c ≡ t) → (c : ℕ) × (c < b ^ suc w) × (digits b (suc w) c ≡ x ∷ t)
      go (c, l, e) = (
        c * b + x,
        omega (arith, pair-before b c x (b ^ w) l low, pow-suc b w),
        ap₂ (λ (y : ℕ) (u : List ℕ). y ∷ u) (pair-second b c x low) (ap (digits b w) (pair-first b c x low) ∙ e),
      )

  module _ (positive : 1 ≤ b) where
    -- the digits of a number fit the base
    pub digits-fit : (w c : ℕ) → Fits w b (digits b w c)
    unfolding digits
    digits-fit zero c = record { len = refl; below = λ i h. absurd (omega arith) }
    digits-fit (suc w) c = go (digits-fit w (c / b))
      where
        go : Fits w b (digits b w (c / b)) → Fits (suc w) b (c % b ∷ digits b w (c / b))
        go f = record { len = ap suc f.len; below = below }
          where
            below : (i : ℕ) → i < suc w → at (c % b ∷ digits b w (c / b)) i < b
            below zero h = mod-lt c positive
            below (suc i) h = f.below i (omega arith)

    -- a number below b ^ v has only zeros behind its v lowest digits
    pub digits_same : (v w c : ℕ) → c < b ^ v → v ≤ w → (i : ℕ) → at (digits b w c) i ≡ at (digits b v c) i
    unfolding digits
    digits_same zero w c l h i = let e : c ≡ 0 = omega (arith, pow-zero b) in ap (λ (d : ℕ). at (digits b w d) i) e ∙ digits-zero w i
    digits_same (suc v) zero c l h i = absurd (omega arith)
    digits_same (suc v) (suc w) c l h zero = refl
    digits_same (suc v) (suc w) c l h (suc i) =
        digits_same v w (c / b) ((div-lt_iff_lt-mul {k = b} {x = c} {y = b ^ v} positive).1 (omega (arith, pow-suc b v))) (omega arith) i

-- ---- the least of the lists tried

-- the lists with an index below c, the highest first
tried : ℕ → ℕ → List (List ℕ)
tried n zero = []
tried n (suc c) = digits n 4 c ∷ tried n c

-- a list with an index below c is one of them
tried-mem : (n c k : ℕ) → k < c → Memᴰ (digits n 4 k) (tried n c)
unfolding tried
tried-mem n zero k h = absurd (omega arith)
tried-mem n (suc c) k h = go (ℕ_discrete k c) (tried-mem n c k)
  where
    go : Dec (k ≡ c) → (k < c → Memᴰ (digits n 4 k) (tried n c)) → Memᴰ (digits n 4 k) (digits n 4 c ∷ tried n c)
    go (yes e) r = Memᴰ.head (ap (digits n 4) e)
    go (no e) r = Memᴰ.tail (r (omega arith))

-- and each of them is such a list
tried-mem⁻¹ : (n c : ℕ) (t : List ℕ) → Memᴰ t (tried n c) → (k : ℕ) × (k < c) × (t ≡ digits n 4 k)
unfolding tried
tried-mem⁻¹ n zero t m = absurd (Memᴰ.not-nil m)
tried-mem⁻¹ n (suc c) t m = go (Memᴰ.cases_cons m) (tried-mem⁻¹ n c t)
  where
    go : (t ≡ digits n 4 c) ⊎ Memᴰ t (tried n c) → (Memᴰ t (tried n c) → (k : ℕ) × (k < c) × (t ≡ digits n 4 k))
        → (k : ℕ) × (k < suc c) × (t ≡ digits n 4 k)
    go (inl e) r = (c, omega arith, e)
    go (inr w) r = let v = r w in (v.0, omega (arith, v.1), v.2)

-- one list more
or-less-is : (x : ℕ) (o : Maybe ℕ) → or_less x (as_option o) ≡ smaller x o
unfolding or_less as_option smaller
or-less-is x none = refl
or-less-is x (some v) = refl

-- what the tries find is the least of the slots of the lists that keep the needs
tries-are : (n m c : ℕ) → fewest_by n m c ≡ as_option (least_of (map slots (filter (keeping n m) (tried n c))))
unfolding fewest_by least_with tried filter least_of as_option choose
tries-are n m zero = refl
tries-are n m (suc c) = go (keeping n m (digits n 4 c)) (tries-are n m c)
  where
    rest : List (List ℕ)
    rest = filter (keeping n m) (tried n c)

    go : (z : Bool) → fewest_by n m c ≡ as_option (least_of (map slots rest))
        → choose z (Some (or_less (slots (digits n 4 c)) (fewest_by n m c))) (fewest_by n m c)
        ≡ as_option (least_of (map slots (choose z (digits n 4 c ∷ rest) rest)))
    go true e = ap (λ (l : Option ℕ). Some (or_less (slots (digits n 4 c)) l)) e ∙ ap Some (or-less-is (slots (digits n 4 c)) (least_of (map slots rest)))
    go false e = e

-- "the fewest slots found by trying every start list with starts below n", of at most four jobs
pub fewest-is : (n m : ℕ) → 1 ≤ n → n ≤ 4 → fewest_by n m (n ^ n) ≡ as_option (fewest n (needs_of n m))
unfolding fewest
fewest-is n m one few =
    tries-are n m (n ^ n)
    ∙ ap as_option (least-same (map slots passed) (map slots kept) (map-mem⁻¹ _ slots passed to) (map-mem⁻¹ _ slots kept from))
  where
    -- of the lists tried those that pass the test
    passed : List (List ℕ)
    passed = filter (keeping n m) (tried n (n ^ n))

    -- of all start lists those that keep the needs
    kept : List (List ℕ)
    kept = filter (keptb (needs_of n m)) (start_lists n n)

    -- the two lists of an index
    same : (k : ℕ) → k < n ^ n → (i : ℕ) → at (digits n 4 k) i ≡ at (digits n n k) i
    same k h = digits_same n one n 4 k h few

    -- each found among the first is found among the second
    to : (t : List ℕ) → Memᴰ t passed → Memᴰ (slots t) (map slots kept)
    to t w =
        let v = filter-mem⁻¹ (keeping n m) (tried n (n ^ n)) t w in
        let c = tried-mem⁻¹ n (n ^ n) t v.0 in
        let u = digits n n c.0 in
        let e : (i : ℕ) → at t i ≡ at u i = λ i. ap (λ (s : List ℕ). at s i) c.2 ∙ same c.0 c.1 i in
        let passes = kept_same (needs_of n m) t u e (subst T (keeping-is n m t) v.1) in
        Memᴰ.cast (slots_same t u e)
        (map-mem slots kept u (filter-mem (keptb (needs_of n m)) (start_lists n n) u (start-lists-all n n u (digits-fit n one n c.0)) passes))

    -- and the other way round
    from : (u : List ℕ) → Memᴰ u kept → Memᴰ (slots u) (map slots passed)
    from u w =
        let v = filter-mem⁻¹ (keptb (needs_of n m)) (start_lists n n) u w in
        let c = digits-all n n u (start-lists-fit n n u v.0) in
        let t = digits n 4 c.0 in
        let e : (i : ℕ) → at u i ≡ at t i = λ i. ap (λ (s : List ℕ). at s i) (sym c.2) ∙ sym (same c.0 c.1 i) in
        let passes = subst T (sym (keeping-is n m t)) (kept_same (needs_of n m) u t e v.1) in
        Memᴰ.cast (slots_same u t e)
        (map-mem slots passed t (filter-mem (keeping n m) (tried n (n ^ n)) t (tried-mem n (n ^ n) c.0 c.1) passes))
