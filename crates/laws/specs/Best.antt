-- The best start list within a limit: the shortest that satisfies P and the cap, and of those the preferred; and nothing else is so. Assumes nothing.
use Rattle.std.specs.Prelude.{◌≡◌, refl, ◌≢◌, ◌⊎◌, ◌↔◌, ◌&&◌, ℕ, zero, suc, ◌≤◌, ◌<◌, eqb}
use Rattle.std.proofs.Common.{sym, ap}
use Rattle.std.proofs.Math.Logic.{inl, inr, ⊎_elim}
use Rattle.std.proofs.Math.Bool.{Bool}
use mathlib.Core.List.Memᴰ
use mathlib.Core.List.{List, [], ◌∷◌, ◌++◌, map, Memᴰ}
use Rattle.std.proofs.Math.Option.{Option, none, some}
use native.Mathlib.Omega.{arith}
use Rattle.std.proofs.Math.Decide.{dec_lt, ℕ_discrete}
use Rattle.std.proofs.Math.Dec.{T, ltb}
use Rattle.rules.specs.Basics.{at, filter, Distinct}
use Rattle.rules.specs.Needs.{Need, Gives, NeedsIn}
use Rattle.rules.specs.Program.{SatisfiesP, slots, Fits, Kept, keptb}
use Rattle.rules.specs.Boards.{Capped, Runs, runsb}
use Rattle.rules.specs.Preference.{Preferred, slot_rows, preferredb, betterb, better, best_by, prefixed, start_lists, best}
use Rattle.laws.specs.Tests.{T-or, T-ltb, by-choice, tests}
use Rattle.laws.specs.Lists.{map-mem, map-mem⁻¹, filter-mem, filter-mem⁻¹}
use Rattle.laws.specs.Program.{kept-is, slots-fits, fits-slots, program-is}
use Rattle.laws.specs.Caps.{runs-is}
use Rattle.laws.specs.Lexicographic.{lex-total, lex-trans}
use Rattle.laws.specs.Preference.{preferred-total, Weak, Weak-antisym, preferred-is}

-- ---- shorter first, then preferred

-- what betterb says
abbrev Better : ℕ → List ℕ → List ℕ → Type 0
Better L a b = (slots a < slots b) ⊎ ((slots a ≡ slots b) × T (preferredb L a b))

module _ (L : ℕ) where
  better-is : (a b : List ℕ) → T (betterb L a b) ↔ Better L a b
  unfolding betterb
  better-is a b = (
    λ h. ⊎_elim (λ q. inl ((T-ltb (slots a) (slots b)).0 q)) (λ q. inr (simp tests at q)) ((T-or shorter as_short).0 h),
    λ h. (T-or shorter as_short).1 (⊎_elim (λ q. inl ((T-ltb (slots a) (slots b)).1 q)) (λ q. inr (simp tests q)) h),
  )
    where
      shorter : Bool
      shorter = ltb (slots a) (slots b)

      as_short : Bool
      as_short = eqb (slots a) (slots b) && preferredb L a b

  better-total : (a b : List ℕ) → T (betterb L a b) ⊎ T (betterb L b a)
  unfolding preferredb
  better-total a b = go (dec_lt (slots a) (slots b)) (dec_lt (slots b) (slots a)) (lex-total (slot_rows L 0 a) (slot_rows L 0 b))
    where
      go : Dec (slots a < slots b) → Dec (slots b < slots a) → T (preferredb L a b) ⊎ T (preferredb L b a) → T (betterb L a b) ⊎ T (betterb L b a)
      go (yes h) d o = inl ((better-is a b).1 (inl h))
      go (no h) (yes k) o = inr ((better-is b a).1 (inl k))
      go (no h) (no k) (inl o) = inl ((better-is a b).1 (inr (omega arith, o)))
      go (no h) (no k) (inr o) = inr ((better-is b a).1 (inr (omega arith, o)))

  better-trans : (a b c : List ℕ) → T (betterb L a b) → T (betterb L b c) → T (betterb L a c)
  unfolding preferredb
  better-trans a b c p q = (better-is a c).1 (go ((better-is a b).0 p) ((better-is b c).0 q))
    where
      go : Better L a b → Better L b c → Better L a c
      go (inl h) (inl k) = inl (omega arith)
      go (inl h) (inr k) = inl (omega arith)
      go (inr h) (inl k) = inl (omega arith)
      go (inr h) (inr k) = inr (omega arith, lex-trans (slot_rows L 0 a) (slot_rows L 0 b) (slot_rows L 0 c) h.1 k.1)

-- ---- the best entry of a list

-- o is the least by q of the lists that G holds of
abbrev Least : (List ℕ → List ℕ → Bool) → (List ℕ → Type 0) → Option (List ℕ) → Type 0
Least q G none = (u : List ℕ) → G u → ⊥
Least q G (some m) = G m × ((u : List ℕ) → G u → T (q m u))

module _ (q : List ℕ → List ℕ → Bool) (q-total : (a b : List ℕ) → T (q a b) ⊎ T (q b a)) (q-trans : (a b c : List ℕ) → T (q a b) → T (q b c) → T (q a c)) where
  best_by-is : (l : List (List ℕ)) → Least q (λ u. Memᴰ u l) (best_by q l)
  unfolding best_by better
  best_by-is [] = λ u m. Memᴰ.not-nil m
  best_by-is (x ∷ xs) = step (best_by q xs) (best_by-is xs)
    where
      all_of : (m : List ℕ) → T (q m x) → ((u : List ℕ) → Memᴰ u xs → T (q m u)) → (u : List ℕ) → Memᴰ u (x ∷ xs) → T (q m u)
      all_of m h f u w = ⊎_elim (λ e. rw e h) (f u) (Memᴰ.cases_cons w)

      x-first : ((u : List ℕ) → Memᴰ u xs → T (q x u)) → Least q (λ u. Memᴰ u (x ∷ xs)) (some x)
      x-first f = (Memᴰ.head refl, all_of x (⊎_elim (λ h. h) (λ h. h) (q-total x x)) f)

      step : (o : Option (List ℕ)) → Least q (λ u. Memᴰ u xs) o → Least q (λ u. Memᴰ u (x ∷ xs)) (some (better q x o))
      step none h = x-first (λ u m. absurd (h u m))
      step (some y) h =
          by-choice (λ m. Least q (λ u. Memᴰ u (x ∷ xs)) (some m)) (q x y) (λ e. x-first (λ u m. q-trans x y u e (h.1 u m)))
          (λ e. (Memᴰ.tail h.0, all_of y (⊎_elim (λ w. absurd (e w)) (λ w. w) (q-total x y)) h.1))

-- ---- the start lists of n jobs that fit the limit L, and no other

prefixed-mem : (L : ℕ) (ls : List (List ℕ)) (x : ℕ) (u : List ℕ) → x < L → Memᴰ u ls → Memᴰ (x ∷ u) (prefixed L ls)
unfolding prefixed
prefixed-mem zero ls x u h m = absurd (omega arith)
prefixed-mem (suc k) ls x u h m = go (ℕ_discrete x k) (λ l. prefixed-mem k ls x u l m)
  where
    go : Dec (x ≡ k) → (x < k → Memᴰ (x ∷ u) (prefixed k ls)) → Memᴰ (x ∷ u) (map (λ l. k ∷ l) ls ++ prefixed k ls)
    go (yes e) r = Memᴰ.cast (ap (λ (y : ℕ). y ∷ u) e) (Memᴰ.append_left (prefixed k ls) (map-mem (λ l. k ∷ l) ls u m))
    go (no e) r = Memᴰ.append_right (map (λ l. k ∷ l) ls) (r (omega arith))

prefixed-mem⁻¹ : (P : List ℕ → Type 0) (L : ℕ) (ls : List (List ℕ)) → ((x : ℕ) (u : List ℕ) → x < L → Memᴰ u ls → P (x ∷ u)) → (v : List ℕ)
    → Memᴰ v (prefixed L ls) → P v
unfolding prefixed
prefixed-mem⁻¹ P zero ls f v m = absurd (Memᴰ.not-nil m)
prefixed-mem⁻¹ P (suc k) ls f v m = go (Memᴰ.append_cases (map (λ l. k ∷ l) ls) m) (prefixed-mem⁻¹ P k ls (λ x u h. f x u (omega arith)) v)
  where
    go : Memᴰ v (map (λ l. k ∷ l) ls) ⊎ Memᴰ v (prefixed k ls) → (Memᴰ v (prefixed k ls) → P v) → P v
    go (inl w) r = map-mem⁻¹ P (λ l. k ∷ l) ls (λ u. f k u (omega arith)) v w
    go (inr w) r = r w

pub start-lists-all : (n L : ℕ) (u : List ℕ) → Fits n L u → Memᴰ u (start_lists n L)
unfolding start_lists
start-lists-all zero L [] f = Memᴰ.head refl
start-lists-all zero L (x ∷ u) f = absurd (omega (arith, f.len))
start-lists-all (suc n) L [] f = absurd (omega (arith, f.len))
start-lists-all (suc n) L (x ∷ u) f =
    prefixed-mem L (start_lists n L) x u (f.below 0 (omega arith))
    (start-lists-all n L u record { len = omega (arith, f.len); below = λ i h. f.below (suc i) (omega arith) })

pub start-lists-fit : (n L : ℕ) (u : List ℕ) → Memᴰ u (start_lists n L) → Fits n L u
unfolding start_lists
start-lists-fit zero L u m = go (Memᴰ.cases_cons m)
  where
    go : (u ≡ []) ⊎ Memᴰ u [] → Fits 0 L u
    go (inl e) = rw e record { len = refl; below = λ i h. absurd (omega arith) }
    go (inr w) = absurd (Memᴰ.not-nil w)
start-lists-fit (suc n) L u m = prefixed-mem⁻¹ (Fits (suc n) L) L (start_lists n L) (λ x v h w. more x v h (start-lists-fit n L v w)) u m
  where
    below' : (x : ℕ) (v : List ℕ) → x < L → Fits n L v → (i : ℕ) → i < suc n → at (x ∷ v) i < L
    below' x v h f zero p = h
    below' x v h f (suc i) p = f.below i (omega arith)

    more : (x : ℕ) (v : List ℕ) → x < L → Fits n L v → Fits (suc n) L (x ∷ v)
    more x v h f = record { len = omega (arith, f.len); below = below' x v h f }

-- ---- the best list that K holds of

-- t has fewer slots than u, or as many and is u or preferred to it
abbrev pub NoWorse : ℕ → List ℕ → List ℕ → Type 0
NoWorse n t u = (slots t < slots u) ⊎ ((slots t ≡ slots u) × Weak n t u)

-- none: K holds of no list within L; a list: K holds of it, it fits L, and it is no worse than each such list
abbrev pub BestWithin : ℕ → ℕ → (List ℕ → Type 0) → Option (List ℕ) → Type 0
BestWithin n L K none = (u : List ℕ) → K u → Fits n L u → ⊥
BestWithin n L K (some t) = K t × Fits n L t × ((u : List ℕ) → K u → Fits n L u → NoWorse n t u)

-- there is one such result
pub BestWithin-unique : (n L : ℕ) (K : List ℕ → Type 0) (o p : Option (List ℕ)) → BestWithin n L K o → BestWithin n L K p → o ≡ p
BestWithin-unique n L K none none a b = refl
BestWithin-unique n L K none (some u) a b = absurd (a u b.0 b.1)
BestWithin-unique n L K (some t) none a b = absurd (b t a.0 a.1)
BestWithin-unique n L K (some t) (some u) a b = ap some (go (a.2 u b.0 b.1) (b.2 t a.0 a.1))
  where
    go : NoWorse n t u → NoWorse n u t → t ≡ u
    go (inl h) (inl k) = absurd (omega arith)
    go (inl h) (inr k) = absurd (omega arith)
    go (inr h) (inl k) = absurd (omega arith)
    go (inr h) (inr k) = Weak-antisym n t u h.1 k.1

-- the exhaustive search finds it, where p tests K
pub best_of : (n : ℕ) (p : List ℕ → Bool) (K : List ℕ → Type 0) → ((u : List ℕ) → T (p u) ↔ K u) → (L : ℕ) → BestWithin n L K (best n p L)
unfolding best
best_of n p K p-is L = go (best_by (betterb L) found) (best_by-is (betterb L) (better-total L) (better-trans L) found)
  where
    found : List (List ℕ)
    found = filter p (start_lists n L)

    inside : (u : List ℕ) → K u → Fits n L u → Memᴰ u found
    inside u k f = filter-mem p (start_lists n L) u (start-lists-all n L u f) ((p-is u).1 k)

    go : (o : Option (List ℕ)) → Least (betterb L) (λ u. Memᴰ u found) o → BestWithin n L K o
    go none h = λ u k f. h u (inside u k f)
    go (some t) h = (
      (p-is t).0 w.1,
      start-lists-fit n L t w.0,
      λ u k f. ⊎_elim (λ q. inl q) (λ q. inr (q.0, (preferred-is n L t u (start-lists-fit n L t w.0) f).0 q.1))
          ((better-is L t u).0 (h.1 u (inside u k f))),
    )
      where
        w : Memᴰ t (start_lists n L) × T (p t)
        w = filter-mem⁻¹ p (start_lists n L) t h.0

-- tests that say the same of the lists within the limit have the same best list
pub best-same : (n : ℕ) (p q : List ℕ → Bool) (L : ℕ) → ((u : List ℕ) → Fits n L u → T (p u) ↔ T (q u)) → best n p L ≡ best n q L
best-same n p q L h = BestWithin-unique n L (λ u. T (q u)) (best n p L) (best n q L) (go (best n p L) (best_of n p (λ u. T (p u)) (λ u. (λ t. t, λ t. t)) L))
    (best_of n q (λ u. T (q u)) (λ u. (λ t. t, λ t. t)) L)
  where
    go : (o : Option (List ℕ)) → BestWithin n L (λ u. T (p u)) o → BestWithin n L (λ u. T (q u)) o
    go none b = λ u k f. b u ((h u f).1 k) f
    go (some t) b = ((h t b.1).0 b.0, b.1, λ u k f. b.2 u ((h u f).1 k) f)

-- for the rules, with at most c jobs in a slot
pub best-is : (n : ℕ) (needs : List Need) (c L : ℕ) → BestWithin n L (Runs n needs c) (best n (runsb n needs c) L)
best-is n needs c L = best_of n (runsb n needs c) (Runs n needs c) (runs-is n needs c) L

-- a cap that every list within the limit keeps asks nothing
pub best-uncapped : (n : ℕ) (needs : List Need) (c L : ℕ) → ((u : List ℕ) → Kept (Gives needs) (at u) → Fits n L u → Capped n c u)
    → best n (runsb n needs c) L ≡ best n (keptb needs) L
best-uncapped n needs c L h = best-same n (runsb n needs c) (keptb needs) L (λ u f. (
  λ t. (kept-is needs u).1 ((runs-is n needs c u).0 t).kept,
  λ t. let k = (kept-is needs u).0 t in (runs-is n needs c u).1 record { kept = k; capped = h u k f },
))

-- ---- what the best list is, said with program P (document 01, question 13, "Preference and boards")

-- program P within C slots, and no more jobs in any slot than c (document 02, request 13)
abbrev pub Satisfies : ℕ → List Need → ℕ → ℕ → List ℕ → Type 0
Satisfies n needs c C t = SatisfiesP n needs C t × Capped n c t

-- t satisfies P within the limit L with at most c jobs in a slot, no list that does has fewer slots, and t is preferred to each other one that has as many
pub record Shortest (n : ℕ) (needs : List Need) (c L : ℕ) (t : List ℕ) : Type 0 where
  pub satisfies : SatisfiesP n needs (slots t) t
  pub capped : Capped n c t
  pub fits : slots t ≤ L
  pub shortest : (u : List ℕ) → Satisfies n needs c L u → slots t ≤ slots u
  pub preferred : (u : List ℕ) → Satisfies n needs c L u → slots u ≡ slots t → u ≢ t → Preferred n t u

module _ (n : ℕ) (needs : List Need) (c L : ℕ) (distinct : Distinct needs) (needs-in : NeedsIn n needs) (L-pos : 0 < L) where
  program : (C : ℕ) (u : List ℕ) → Satisfies n needs c C u ↔ (Runs n needs c u × Fits n C u)
  program C u = let w = program-is n needs C u distinct needs-in in
      (λ h. let k = w.0 h.0 in (record { kept = k.0; capped = h.1 }, k.1), λ h. (w.1 (h.0.kept, h.1), h.0.capped))

  -- the best list is the shortest, and of those the preferred
  pub best-found : (t : List ℕ) → best n (runsb n needs c) L ≡ some t → Shortest n needs c L t
  best-found t e = record {
    satisfies = ((program (slots t) t).1 (h.0, slots-fits n (slots t) t h.1.len (omega arith))).0;
    capped = h.0.capped;
    fits = fits-slots n L t L-pos h.1;
    shortest = λ u s. ⊎_elim (λ q. omega (arith, q)) (λ q. omega (arith, q.0)) (rest u s);
    preferred = λ u s e d. ⊎_elim (λ q. absurd (omega (arith, q))) (λ q. ⊎_elim (λ z. absurd (d (sym z))) (λ z. z) q.1) (rest u s);
  }
    where
      h : BestWithin n L (Runs n needs c) (some t)
      h = rw e at (best-is n needs c L)

      rest : (u : List ℕ) → Satisfies n needs c L u → NoWorse n t u
      rest u s = let w = (program L u).0 s in h.2 u w.0 w.1

  -- and nothing else is
  pub best-only : (t : List ℕ) → Shortest n needs c L t → best n (runsb n needs c) L ≡ some t
  best-only t s =
      BestWithin-unique n L (Runs n needs c) (best n (runsb n needs c) L) (some t) (best-is n needs c L) (
        w.0,
        slots-fits n L t w.1.len s.fits,
        λ u k f. compare u ((program L u).1 (k, f)) (preferred-total n t u w.1.len f.len) (dec_lt (slots t) (slots u)),
      )
    where
      w : Runs n needs c t × Fits n (slots t) t
      w = (program (slots t) t).0 (s.satisfies, s.capped)

      equal-or : (u : List ℕ) → Satisfies n needs c L u → slots t ≡ slots u → (t ≡ u) ⊎ (Preferred n t u ⊎ Preferred n u t) → Weak n t u
      equal-or u p e (inl q) = inl q
      equal-or u p e (inr (inl q)) = inr q
      equal-or u p e (inr (inr q)) = inr (s.preferred u p (sym e) (λ y. q.lacks (rw y at q.has)))

      compare : (u : List ℕ) → Satisfies n needs c L u → (t ≡ u) ⊎ (Preferred n t u ⊎ Preferred n u t) → Dec (slots t < slots u) → NoWorse n t u
      compare u p o (yes h) = inl h
      compare u p o (no h) = let e : slots t ≡ slots u = omega (arith, s.shortest u p) in inr (e, equal-or u p e o)

  -- where a list within the limit satisfies P and the cap there is a best one
  pub best-some : (u : List ℕ) → Satisfies n needs c L u → (t : List ℕ) × (best n (runsb n needs c) L ≡ some t)
  best-some u s = go (best n (runsb n needs c) L) (best-is n needs c L)
    where
      go : (o : Option (List ℕ)) → BestWithin n L (Runs n needs c) o → (t : List ℕ) × (o ≡ some t)
      go none h = let w = (program L u).0 s in absurd (h u w.0 w.1)
      go (some t) h = (t, refl)

  -- and there is none exactly where no list within the limit satisfies both
  pub best_none : (best n (runsb n needs c) L ≡ none) ↔ ((t : List ℕ) → Satisfies n needs c L t → ⊥)
  best_none = (
    λ e t s. let w = (program L t).0 s in (rw e at (best-is n needs c L)) t w.0 w.1,
    λ f. go f (best n (runsb n needs c) L) (best-is n needs c L),
  )
    where
      go : ((t : List ℕ) → Satisfies n needs c L t → ⊥) → (o : Option (List ℕ)) → BestWithin n L (Runs n needs c) o → o ≡ none
      go f none h = refl
      go f (some t) h = absurd (f t ((program L t).1 (h.0, h.1)))
