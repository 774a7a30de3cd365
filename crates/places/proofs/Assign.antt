-- The places that a file's jobs get: jobs enter by release, and each takes the lowest place that no job with an open window has (greedy
-- colouring of an interval graph). Where no slot in which a job enters is in more than eight windows there is a place for every job, and
-- otherwise not. Assumes nothing.
-- Its definitions: specs/Assign.antt.
use Rattle.std.specs.Prelude.{◌≡◌, ◌⊎◌, ◌↔◌, Bool, true, length}
use Rattle.std.proofs.Math.Path.{refl, sym, ap}
use Rattle.std.proofs.Common.{◌∙◌, arith}
use Rattle.std.proofs.Math.Logic.{inl, inr, ⊎_elim}
use mathlib.Core.List.Memᴰ
use mathlib.Core.List.{List, [], ◌∷◌, ◌++◌, Memᴰ}
use Prim.Native.Nat.{ℕ, suc, ◌+◌, ◌≤◌, ◌<◌}
use Rattle.std.proofs.Math.Decide.{dec_lt}
use Rattle.std.proofs.Math.Dec.{ltb, eqb}
use Rattle.rules.specs.Sizes.{max_width}
use Rattle.rules.specs.Basics.{range, Distinct}
use Rattle.laws.specs.Tests.{T-ltb, T-eqb, choose_yes, choose_no}
use Rattle.laws.specs.Lists.{range-rising}
use Rattle.laws.specs.Counting.{rising-distinct, range-below, length-range, pigeonhole-by}
use Rattle.jobset.specs.declared.Set.{Set}
use Rattle.jobset.specs.Sets.{member, Subset}
use Rattle.jobset.specs.Inclusion.{subset-antisym}
use Rattle.jobset.specs.Tests.{present}
use Rattle.places.specs.Seats.{seats_of, in-seats}
use Rattle.places.specs.Windows.{Windows, held, in_held, held-rising, Seats}
use Rattle.places.specs.Assign.{free_place, Lowest, free-place, giving, taken, assign, assigned, ByRelease, Entering, Enough, seats-same}

-- ---- jobs one after the other

giving-same : (π : ℕ → ℕ) (i p : ℕ) → giving π i p i ≡ p
unfolding giving
giving-same π i p = choose_yes (eqb i i) p (π i) ((T-eqb i i).1 refl)

giving-other : (π : ℕ → ℕ) (i p j : ℕ) → ¬ (j ≡ i) → giving π i p j ≡ π j
unfolding giving
giving-other π i p j n = choose_no (eqb j i) p (π j) (λ t. n ((T-eqb j i).0 t))

-- of the jobs that have entered: those that share a slot have different places below 8, and one that got none entered a slot of more than eight
record Sound (W : Windows) (before : List ℕ) (π : ℕ → ℕ) : Type 0 where
  apart : (s i j : ℕ) → Memᴰ i before → Memᴰ j before → Memᴰ i (held W s) → Memᴰ j (held W s) → π i < max_width → π i ≡ π j → i ≡ j
  crowded : (i : ℕ) → Memᴰ i before → W.r i < W.d i → max_width ≤ π i → max_width < length (held W (W.r i))

module _ (W : Windows) where
  -- one job more
  module _ (before : List ℕ) (i : ℕ) (π : ℕ → ℕ) (in-n : (j : ℕ) → Memᴰ j (i ∷ before) → j < W.n) (out : ¬ (Memᴰ i before))
      (earlier : (j : ℕ) → Memᴰ j before → W.r j ≤ W.r i) (so : Sound W before π) where
    abbrev used : Set
    used = taken W π before (W.r i)

    abbrev p : ℕ
    p = free_place (taken W π before (W.r i))

    abbrev π' : ℕ → ℕ
    π' = giving π i (free_place (taken W π before (W.r i)))

    in-used : (q : ℕ) → (member used q ≡ true) ↔ ((j : ℕ) × Memᴰ j before × (π j ≡ q) × (W.r i < W.d j))
    unfolding taken
    in-used q = let w = in-seats π (λ j. ltb (W.r i) (W.d j)) before q in (
      λ m. let v = w.0 m in (v.0, v.1, v.2, (T-ltb (W.r i) (W.d v.0)).0 v.3),
      λ v. w.1 (v.0, v.1, v.2, (T-ltb (W.r i) (W.d v.0)).1 v.3),
    )

    low : Lowest used p
    low = free-place used

    here : π' i ≡ p
    here = giving-same π i p

    old : (j : ℕ) → Memᴰ j before → π' j ≡ π j
    old j m = giving-other π i p j (λ e. out (rw e at m))

    -- the new place is none of those held
    new : (s j : ℕ) → Memᴰ j before → Memᴰ i (held W s) → Memᴰ j (held W s) → p < max_width → ¬ (p ≡ π j)
    new s j m a b l e = present (member used p) ((in-used p).1 (j, m, sym e, omega (arith, ((in_held W s i).0 a).1, ((in_held W s j).0 b).2))) (low.is_free l)

    -- all eight places taken: with this job nine are held
    abbrev Has : ℕ → ℕ → Type 0
    Has q j = ((q < max_width) × (π j ≡ q) × Memᴰ j before) ⊎ ((q ≡ max_width) × (j ≡ i))

    crowd : W.r i < W.d i → max_width ≤ p → max_width < length (held W (W.r i))
    crowd o l = omega (
      arith,
      length-range (suc max_width) 0,
      pigeonhole-by Has (range (suc max_width) 0) (held W (W.r i)) (rising-distinct (range (suc max_width) 0) (range-rising (suc max_width) 0))
          (λ q m. find q ((range-below (suc max_width) q).0 m) (dec_lt q max_width)) (λ q z j a b u v. same q z j u v),
    )
      where
        find : (q : ℕ) → q < (suc max_width) → Dec (q < max_width) → (j : ℕ) × Memᴰ j (held W (W.r i)) × Has q j
        find q h (yes g) = let w = (in-used q).0 (low.below q (omega arith)) in
            (w.0, (in_held W (W.r i) w.0).1 (in-n w.0 (Memᴰ.tail w.1), earlier w.0 w.1, w.3), inl (g, w.2, w.1))
        find q h (no g) = (i, (in_held W (W.r i) i).1 (in-n i (Memᴰ.head refl), omega arith, o), inr (omega arith, refl))

        same : (q z j : ℕ) → Has q j → Has z j → q ≡ z
        same q z j (inl a) (inl b) = sym a.1 ∙ b.1
        same q z j (inl a) (inr b) = absurd (out (rw b.1 at a.2))
        same q z j (inr a) (inl b) = absurd (out (rw a.1 at b.2))
        same q z j (inr a) (inr b) = a.0 ∙ sym b.0

    step : Sound W (i ∷ before) π'
    step = record {
      apart = λ s j k a b. two s j k (Memᴰ.cases_cons a) (Memᴰ.cases_cons b);
      crowded = λ j m. one j (Memᴰ.cases_cons m);
    }
      where
        two : (s j k : ℕ) → (j ≡ i) ⊎ Memᴰ j before → (k ≡ i) ⊎ Memᴰ k before → Memᴰ j (held W s) → Memᴰ k (held W s) → π' j < max_width
            → π' j ≡ π' k → j ≡ k
        two s j k (inl a) (inl b) u v l e = a ∙ sym b
        two s j k (inl a) (inr b) u v l e = let z : π' j ≡ p = ap π' a ∙ here in absurd (new s k b (rw a at u) v (omega arith) (sym z ∙ e ∙ old k b))
        two s j k (inr a) (inl b) u v l e = let z : π' k ≡ p = ap π' b ∙ here in absurd (new s j a (rw b at v) u (omega arith) (sym z ∙ sym e ∙ old j a))
        two s j k (inr a) (inr b) u v l e = so.apart s j k a b u v (omega (arith, old j a)) (sym (old j a) ∙ e ∙ old k b)

        one : (j : ℕ) → (j ≡ i) ⊎ Memᴰ j before → W.r j < W.d j → max_width ≤ π' j → max_width < length (held W (W.r j))
        one j (inl a) o l = let z : π' j ≡ p = ap π' a ∙ here in rw a (crowd (rw a at o) (omega arith))
        one j (inr a) o l = so.crowded j a o (omega (arith, old j a))

  -- all jobs
  run : (js before : List ℕ) (π : ℕ → ℕ) → ((j : ℕ) → Memᴰ j js → j < W.n) → ((j : ℕ) → Memᴰ j before → j < W.n) → Distinct js
      → ((j : ℕ) → Memᴰ j js → ¬ (Memᴰ j before))
      → ByRelease W js → ((i j : ℕ) → Memᴰ i js → Memᴰ j before → W.r j ≤ W.r i) → Sound W before π
      → (all : List ℕ) × ((i : ℕ) → (Memᴰ i before ⊎ Memᴰ i js) → Memᴰ i all) × Sound W all (assign W before js π)
  unfolding assign
  run [] before π js-in b-in d out by ear so = (before, λ i o. ⊎_elim (λ m. m) (λ m. absurd (Memᴰ.not-nil m)) o, so)
  run (i ∷ js) before π js-in b-in d out by ear so =
      let r = run js (i ∷ before) (giving π i (free_place (taken W π before (W.r i)))) (λ j m. js-in j (Memᴰ.tail m)) b-in' d.1
      (λ j m k. ⊎_elim (λ e. d.0 (rw e at m)) (out j (Memᴰ.tail m)) (Memᴰ.cases_cons k)) by.1
      (λ j k m n. ⊎_elim (λ e. rw e (by.0 j m)) (ear j k (Memᴰ.tail m)) (Memᴰ.cases_cons n))
      (step before i π b-in' (out i (Memᴰ.head refl)) (λ j m. ear i j (Memᴰ.head refl) m) so) in
      (r.0, λ j o. r.1 j (⊎_elim (λ m. inl (Memᴰ.tail m)) (λ m. ⊎_elim (λ e. inl (Memᴰ.head e)) inr (Memᴰ.cases_cons m)) o), r.2)
    where
      b-in' : (j : ℕ) → Memᴰ j (i ∷ before) → j < W.n
      b-in' j m = ⊎_elim (λ e. rw e (js-in i (Memᴰ.head refl))) (b-in j) (Memᴰ.cases_cons m)

  module _ (order : List ℕ) (en : Entering W order) where
    whole : (all : List ℕ) × ((i : ℕ) → (Memᴰ i [] ⊎ Memᴰ i order) → Memᴰ i all) × Sound W all (assigned W order)
    unfolding assigned
    whole = run order [] (λ i. max_width) (λ j m. (en.all j).0 m) (λ j m. absurd (Memᴰ.not-nil m)) en.distinct (λ j m k. Memᴰ.not-nil k)
        en.by-release
        (λ i j m k. absurd (Memᴰ.not-nil k)) record { apart = λ s i j m. absurd (Memᴰ.not-nil m); crowded = λ i m. absurd (Memᴰ.not-nil m) }

    entered : (i : ℕ) → i < W.n → Memᴰ i whole.0
    entered i l = whole.1 i (inr ((en.all i).1 l))

    -- where each job with a window has a place, the places are an assignment
    pub assigned-seats : Enough W order → Seats W
    assigned-seats f = record {
      place = assigned W order;
      low = λ s i m. let w = (in_held W s i).0 m in f i w.0 (omega (arith, w.1, w.2));
      apart = λ s i j a b e. let w = (in_held W s i).0 a in
          whole.2.apart s i j (entered i w.0) (entered j ((in_held W s j).0 b).0) a b (f i w.0 (omega (arith, w.1, w.2))) e;
    }

    -- and there are enough where no slot in which a job enters holds more than eight
    pub narrow-enough : ((i : ℕ) → i < W.n → W.r i < W.d i → length (held W (W.r i)) ≤ max_width) → Enough W order
    narrow-enough f i l o = go (dec_lt (assigned W order i) max_width)
      where
        go : Dec (assigned W order i < max_width) → assigned W order i < max_width
        go (yes h) = h
        go (no h) = absurd (omega (arith, whole.2.crowded i (entered i l) o (omega arith), f i l o))

-- ---- each place, said of all places: the lowest that no job before it in the order has whose window goes on

-- (in which order they entered does not matter)
pub taken-same : (W : Windows) (π : ℕ → ℕ) (H K : List ℕ) (s : ℕ) → ((j : ℕ) → Memᴰ j H ↔ Memᴰ j K) → taken W π H s ≡ taken W π K s
unfolding taken
taken-same W π H K s f = subset-antisym (seats_of π test H) (seats_of π test K) (under H K (λ j. (f j).0)) (under K H (λ j. (f j).1))
  where
    test : ℕ → Bool
    test j = ltb s (W.d j)

    under : (X Y : List ℕ) → ((j : ℕ) → Memᴰ j X → Memᴰ j Y) → Subset (seats_of π test X) (seats_of π test Y)
    under X Y g = unfold Subset in λ p m. let w = (in-seats π test X p).0 m in (in-seats π test Y p).1 (w.0, g w.0 w.1, w.2, w.3)

module _ (W : Windows) where
  assign-keeps : (js before : List ℕ) (π : ℕ → ℕ) (j : ℕ) → ¬ (Memᴰ j js) → assign W before js π j ≡ π j
  unfolding assign
  assign-keeps [] before π j n = refl
  assign-keeps (i ∷ js) before π j n = assign-keeps js (i ∷ before) (giving π i (free_place (taken W π before (W.r i)))) j (λ m. n (Memᴰ.tail m))
      ∙ giving-other π i (free_place (taken W π before (W.r i))) j (λ e. n (Memᴰ.head e))

  -- those that entered, the last one first
  last_first : List ℕ → List ℕ → List ℕ
  last_first [] before = before
  last_first (x ∷ xs) before = last_first xs (x ∷ before)

  in-last_first : (xs before : List ℕ) (j : ℕ) → Memᴰ j (last_first xs before) ↔ (Memᴰ j xs ⊎ Memᴰ j before)
  unfolding last_first
  in-last_first [] before j = (inr, λ o. ⊎_elim (λ m. absurd (Memᴰ.not-nil m)) (λ m. m) o)
  in-last_first (x ∷ xs) before j = let r = in-last_first xs (x ∷ before) j in (
    λ m. ⊎_elim (λ a. inl (Memᴰ.tail a)) (λ a. ⊎_elim (λ e. inl (Memᴰ.head e)) inr (Memᴰ.cases_cons a)) (r.0 m),
    λ o. r.1 (⊎_elim (λ a. ⊎_elim (λ e. inr (Memᴰ.head e)) inl (Memᴰ.cases_cons a)) (λ a. inr (Memᴰ.tail a)) o),
  )

  assign-at : (xs ys before : List ℕ) (i : ℕ) (π : ℕ → ℕ) → ¬ (Memᴰ i ys) → Distinct (xs ++ i ∷ ys)
      → ((j : ℕ) → Memᴰ j before → ¬ (Memᴰ j (xs ++ i ∷ ys)))
      → assign W before (xs ++ i ∷ ys) π i ≡ free_place (taken W (assign W before (xs ++ i ∷ ys) π) (last_first xs before) (W.r i))
  unfolding assign last_first
  assign-at [] ys before i π n d out =
      assign-keeps ys (i ∷ before) (giving π i p) i n ∙ giving-same π i p
      ∙ ap free_place (unfold taken in seats-same π (assign W (i ∷ before) ys (giving π i p)) (λ j. ltb (W.r i) (W.d j)) before (λ j m.
      sym (assign-keeps ys (i ∷ before) (giving π i p) j (λ k. out j m (Memᴰ.tail k)) ∙ giving-other π i p j (λ e. out j m (Memᴰ.head e)))))
    where
      p : ℕ
      p = free_place (taken W π before (W.r i))
  assign-at (x ∷ xs) ys before i π n d out = assign-at xs ys (x ∷ before) i (giving π x (free_place (taken W π before (W.r x)))) n d.1
      (λ j m k. ⊎_elim (λ e. d.0 (rw e at k)) (λ w. out j w (Memᴰ.tail k)) (Memᴰ.cases_cons m))

  pub assigned-at : (order xs ys : List ℕ) (i : ℕ) → Distinct order → order ≡ xs ++ i ∷ ys
      → Lowest (taken W (assigned W order) xs (W.r i)) (assigned W order i)
  unfolding assigned
  assigned-at order xs ys i d e = rw e (rw (assign-at xs ys [] i (λ j. max_width) (later xs d') d' (λ j m. absurd (Memᴰ.not-nil m)))
      (rw (taken-same W (assign W [] (xs ++ i ∷ ys) (λ j. max_width)) (last_first xs []) xs (W.r i) (λ j. let w = in-last_first xs [] j in
      (λ m. ⊎_elim (λ a. a) (λ a. absurd (Memᴰ.not-nil a)) (w.0 m), λ m. w.1 (inl m))))
      (free-place (taken W (assign W [] (xs ++ i ∷ ys) (λ j. max_width)) xs (W.r i)))))
    where
      d' : Distinct (xs ++ i ∷ ys)
      d' = rw e at d

      later : (zs : List ℕ) → Distinct (zs ++ i ∷ ys) → ¬ (Memᴰ i ys)
      later [] q = q.0
      later (z ∷ zs) q = later zs q.1

-- an assignment leaves no slot with more than eight
pub seats-eight : (W : Windows) → Seats W → (s : ℕ) → length (held W s) ≤ max_width
seats-eight W Z s = omega (
  arith,
  length-range max_width 0,
  pigeonhole-by (λ (i p : ℕ). Z.place i ≡ p) (held W s) (range max_width 0) (rising-distinct (held W s) (held-rising W s))
      (λ i m. (Z.place i, (range-below max_width (Z.place i)).1 (Z.low s i m), refl)) (λ i j p a b e f. Z.apart s i j a b (e ∙ sym f)),
)
