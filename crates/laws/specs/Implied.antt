-- Which needs follow from others: the test says it, and the list has each of them once, in rising order (document 02, request 5). Assumes nothing.
use Rattle.std.specs.Prelude.{◌≡◌, refl, ◌⊎◌, ◌↔◌, ◌&&◌, length}
use Rattle.std.proofs.Math.Path.{ap}
use Rattle.std.proofs.Common.{◌∙◌, zero-add}
use Rattle.std.proofs.Math.Logic.{inl, inr, ⊎_elim}
use Rattle.std.proofs.Math.Bool.{Bool, false, not}
use mathlib.Core.List.Memᴰ
use mathlib.Core.List.{List, [], ◌∷◌, ◌++◌, map, Memᴰ}
use Prim.Native.Nat.{ℕ, zero, suc, ◌+◌, ◌*◌, ◌≤◌, ◌<◌}
use native.Mathlib.Omega.{arith}
use Rattle.std.proofs.Math.Decide.{dec_lt, ℕ_discrete}
use Rattle.std.proofs.Math.ListN.{length-replicate, get_or-eq_default}
use Rattle.std.proofs.Math.Dec.{T, eqb}
use Rattle.rules.specs.Basics.{range}
use Rattle.rules.specs.Needs.{Need, Gives, givesb, NeedsIn, Chain, one, more, Circle, marked, rounds}
use Rattle.rules.specs.Implied.{others, Implied, reached_by, reached, reachesb, impliedb, implied_takers, implied_from, implied_needs, pair_numbers}
use Rattle.laws.specs.Tests.{T_and, T-eqb, tests}
use Rattle.laws.specs.Lists.{map-mem, map-mem⁻¹, filter-mem, filter-mem⁻¹, tabulate-at, length-tabulate}
use Rattle.laws.specs.Counting.{range-below}
use Rattle.laws.specs.Program.{gives-is}
use Rattle.laws.specs.Circles.{snoc, none-marked, giver-first, free-marked}

-- ---- chains

-- a chain from g to k of two needs or more
abbrev pub Far : List Need → ℕ → ℕ → Type 0
Far needs g k = (b : ℕ) × Gives needs g b × Chain needs b k

-- two chains, one after the other
pub join : (needs : List Need) (a b c : ℕ) → Chain needs a b → Chain needs b c → Chain needs a c
join needs _ _ c (one a b m) r = more a b c m r
join needs _ _ c (more a d b m q) r = more a d c m (join needs d b c q r)

-- the last need of a chain of two needs or more, and the chain before it
pub far-last : (needs : List Need) (g k : ℕ) → Far needs g k → (h : ℕ) × Chain needs g h × Gives needs h k
far-last needs g k (b, m, one _ _ w) = (b, one g b m, w)
far-last needs g k (b, m, more _ c _ w r) = let (h, q, l) = far-last needs b k (c, w, r) in (h, more g b h m q, l)

-- the last need of any chain
last-need : (needs : List Need) (a c : ℕ) → Chain needs a c → Gives needs a c ⊎ ((h : ℕ) × Chain needs a h × Gives needs h c)
last-need needs _ _ (one a c m) = inl m
last-need needs _ _ (more a b c m r) = inr (far-last needs a c (b, m, r))

-- a chain of needs that are all among others is one of those
pub chain-within : (ds es : List Need) → ((g k : ℕ) → Gives ds g k → Gives es g k) → (a b : ℕ) → Chain ds a b → Chain es a b
chain-within ds es h _ _ (one a b m) = one a b (h a b m)
chain-within ds es h _ _ (more a b c m r) = more a b c (h a b m) (chain-within ds es h b c r)

-- a chain ends with a job
end-in : (n : ℕ) (needs : List Need) → NeedsIn n needs → (a b : ℕ) → Chain needs a b → b < n
end-in n needs needs-in _ _ (one a b m) = (needs-in a b m).1
end-in n needs needs-in _ _ (more a b c m r) = end-in n needs needs-in b c r

-- the needs but one are among all
others-in : (needs : List Need) (g k a b : ℕ) → Gives (others (g, k) needs) a b → Gives needs a b
unfolding others
others-in needs g k a b m = (filter-mem⁻¹ (λ e. not (eqb e.0 g && eqb e.1 k)) needs (a, b) m).0

-- where a need follows from others there is a chain of two needs or more
pub implied-far : {needs : List Need} {g k : ℕ} → Implied needs g k → Far needs g k
implied-far {needs} {g} {k} i = (
  i.next,
  others-in needs g k g i.next i.first,
  chain-within (others (g, k) needs) needs (others-in needs g k) i.next k i.rest,
)

-- ---- what is reached

module _ (n : ℕ) (needs : List Need) (needs-in : NeedsIn n needs) (a : ℕ) where
  -- a round more
  reached-step : (f i : ℕ) → i < n → marked (reached n needs a (suc f)) i ≡ reached_by needs a (reached n needs a f) i
  unfolding reached
  reached-step f i h = tabulate-at (reached_by needs a (reached n needs a f)) n 0 i false h ∙ ap (reached_by needs a (reached n needs a f)) (zero-add i)

  -- each job has a mark
  length-reached : (f : ℕ) → length (reached n needs a f) ≡ n
  unfolding reached
  length-reached zero = length-replicate n false
  length-reached (suc f) = length-tabulate (reached_by needs a (reached n needs a f)) n 0

  -- what is marked is reached
  marked-reached : (f i : ℕ) → T (marked (reached n needs a f) i) → Chain needs a i
  unfolding reached rounds
  marked-reached zero i t = absurd (none-marked n needs i t)
  marked-reached (suc f) i t = go (dec_lt i n) (marked-reached f)
    where
      by : ((j : ℕ) → T (marked (reached n needs a f) j) → Chain needs a j) → T (reached_by needs a (reached n needs a f) i) → Chain needs a i
      by r h = unfold reached_by in
          let w = simp tests at h in
          let d : Gives needs w.0.0 w.0.1 = w.1 in
          let m : Gives needs w.0.0 i = rw w.2.0 at d in
          ⊎_elim (λ e. one a i (rw ((T-eqb w.0.0 a).0 e) at m)) (λ k. snoc needs a w.0.0 i (r w.0.0 k) m) w.2.1

      go : Dec (i < n) → ((j : ℕ) → T (marked (reached n needs a f) j) → Chain needs a j) → Chain needs a i
      go (yes h) r = by r (rw (reached-step f i h) at t)
      go (no h) r = absurd (rw (get_or-eq_default (reached n needs a (suc f)) false {n = i} (omega (arith, length-reached (suc f)))) at t)

  -- what is reached is marked, as soon as the test for circles marks it
  reached-marked : (f i : ℕ) → T (marked (rounds n needs f) i) → Chain needs a i → T (marked (reached n needs a f) i)
  reached-marked zero i t c = absurd (none-marked n needs i t)
  reached-marked (suc f) i t c = go (last-need needs a i c) (reached-marked f)
    where
      put : (g : ℕ) → Gives needs g i → (g ≡ a) ⊎ T (marked (reached n needs a f) g) → T (marked (reached n needs a (suc f)) i)
      put g m o =
          rw (reached-step f i (needs-in g i m).1)
          (unfold reached_by in simp tests ((g, i), m, (refl, ⊎_elim (λ e. inl ((T-eqb g a).1 e)) inr o)))

      go : Gives needs a i ⊎ ((h : ℕ) × Chain needs a h × Gives needs h i)
          → ((j : ℕ) → T (marked (rounds n needs f) j) → Chain needs a j → T (marked (reached n needs a f) j)) → T (marked (reached n needs a (suc f)) i)
      go (inl m) r = put a m (inl refl)
      go (inr (h, c, m)) r = put h m (inr (r h (giver-first n needs needs-in f h i m t) c))

module _ {n : ℕ} {needs : List Need} (needs-in : NeedsIn n needs) (free : ¬ (Circle needs)) where
  -- the marks after n rounds say that a chain leads from a to b
  pub reaches-is : (a b : ℕ) → T (reachesb n needs a b) ↔ Chain needs a b
  unfolding reachesb
  reaches-is a b = (
    marked-reached n needs needs-in a n b,
    λ c. reached-marked n needs needs-in a n b (free-marked n needs needs-in free b (end-in n needs needs-in a b c)) c,
  )

  -- ---- the test

  -- it says that there is a chain of two needs or more
  pub far-is : (g k : ℕ) → T (impliedb n needs (g, k)) ↔ Far needs g k
  unfolding impliedb
  far-is g k = (
    λ h.
        let w = simp tests at h in
        let d : Gives needs w.0.0 w.0.1 = w.1 in
        (w.0.1, rw w.2.0 at d, (reaches-is w.0.1 k).0 w.2.1),
    λ w. simp tests ((g, w.0), w.1, (refl, (reaches-is w.0 k).1 w.2)),
  )

  -- without a circle such a chain has other needs alone
  other : (g k a b : ℕ) → Gives needs a b → ¬ ((a ≡ g) × (b ≡ k)) → Gives (others (g, k) needs) a b
  unfolding others
  other g k a b m h = filter-mem (λ e. not (eqb e.0 g && eqb e.1 k)) needs (a, b) m (simp tests h)

  -- a chain that g leads to does not come back to g
  rest-others : (g k a c : ℕ) → Chain needs g a → Chain needs a c → Chain (others (g, k) needs) a c
  rest-others g k _ _ w (one a c m) = one a c (other g k a c m (λ h. free (g, rw h.0 at w)))
  rest-others g k _ _ w (more a b c m r) =
      more a b c (other g k a b m (λ h. free (g, rw h.0 at w))) (rest-others g k b c (snoc needs g a b w m) r)

  -- so a need with such a chain beside it follows from others
  pub far-implied : (g k : ℕ) → Gives needs g k → Far needs g k → Implied needs g k
  far-implied g k m (b, a, r) = record {
    need = m;
    next = b;
    first = other g k g b a (λ e. free (k, rw e.1 at r));
    rest = rest-others g k b k (one g b a) r;
  }

  -- a need passes the test exactly where it follows from others
  pub implied-is : (g k : ℕ) → (Gives needs g k × T (impliedb n needs (g, k))) ↔ Implied needs g k
  implied-is g k = (λ h. far-implied g k h.0 ((far-is g k).0 h.1), λ i. (i.need, (far-is g k).1 (implied-far i)))

  -- ---- the list

  -- it has of each giver the takers whose need follows
  takers-are : (g k : ℕ) → Memᴰ k (implied_takers n needs g) ↔ Implied needs g k
  unfolding implied_takers
  takers-are g k = (
    λ m.
        let w = (T_and (givesb needs g k) (impliedb n needs (g, k))).0 (filter-mem⁻¹ test (range n 0) k m).1 in
        (implied-is g k).0 ((gives-is needs g k).0 w.0, w.1),
    λ i.
        let w = (implied-is g k).1 i in
        filter-mem test (range n 0) k ((range-below n k).1 (needs-in g k w.0).1)
        ((T_and (givesb needs g k) (impliedb n needs (g, k))).1 ((gives-is needs g k).1 w.0, w.1)),
  )
    where
      test : ℕ → Bool
      test k = givesb needs g k && impliedb n needs (g, k)

  -- and of c givers from g up all such needs
  from_is : (c g a b : ℕ) → Gives (implied_from n needs c g) a b ↔ ((g ≤ a) × (a < g + c) × Implied needs a b)
  unfolding implied_from
  from_is zero g a b = (λ m. absurd (Memᴰ.not-nil m), λ w. absurd (omega (arith, w.0, w.1)))
  from_is (suc c) g a b = (
    λ m.
        ⊎_elim here (λ w. let v = (from_is c (suc g) a b).0 w in (omega (arith, v.0), omega (arith, v.1), v.2))
        (Memᴰ.append_cases (map (λ k. (g, k)) row) m),
    λ w. put w (ℕ_discrete a g) (from_is c (suc g) a b).1,
  )
    where
      row : List ℕ
      row = implied_takers n needs g

      here : Gives (map (λ k. (g, k)) row) a b → (g ≤ a) × (a < g + suc c) × Implied needs a b
      here m =
          map-mem⁻¹ (λ (d : Need). (g ≤ d.0) × (d.0 < g + suc c) × Implied needs d.0 d.1) (λ k. (g, k)) row
          (λ k w. (omega arith, omega arith, (takers-are g k).0 w)) (a, b) m

      put : (g ≤ a) × (a < g + suc c) × Implied needs a b → Dec (a ≡ g)
          → ((suc g ≤ a) × (a < suc g + c) × Implied needs a b → Gives (implied_from n needs c (suc g)) a b)
          → Gives (map (λ k. (g, k)) row ++ implied_from n needs c (suc g)) a b
      put w (yes e) next = rw e (Memᴰ.append_left (implied_from n needs c (suc g)) (map-mem (λ k. (g, k)) row b ((takers-are g b).1 (rw e at w.2))))
      put w (no e) next = Memᴰ.append_right (map (λ k. (g, k)) row) (next (omega (arith, w.0), omega (arith, w.1), w.2))

  -- it has just the needs that follow from others
  pub list-is : (g k : ℕ) → Gives (implied_needs n needs) g k ↔ Implied needs g k
  unfolding implied_needs
  list-is g k = (λ m. ((from_is n 0 g k).0 m).2, λ i. (from_is n 0 g k).1 (omega arith, omega (arith, (needs-in g k i.need).0), i))

-- ---- the order

-- "in rising order of giver, then taker": d comes before e
abbrev pub Before : Need → Need → Type 0
Before d e = (d.0 < e.0) ⊎ ((d.0 ≡ e.0) × (d.1 < e.1))

-- each comes before all that follow
abbrev pub InOrder : List Need → Type 0
InOrder [] = Unit {0}
InOrder (d ∷ ds) = ((e : Need) → Memᴰ e ds → Before d e) × InOrder ds

module _ (n : ℕ) (needs : List Need) where
  -- the listed needs of giver g
  abbrev row : ℕ → List Need
  row g = map (λ k. (g, k)) (implied_takers n needs g)

-- ---- the numbers of the pairs

-- those of two lists, one behind the other
pub pairs-append : (ds es : List Need) → pair_numbers (ds ++ es) ≡ pair_numbers ds ++ pair_numbers es
unfolding pair_numbers
pairs-append [] es = refl
pairs-append (d ∷ ds) es = ap (λ (ns : List ℕ). suc d.0 ∷ suc d.1 ∷ ns) (pairs-append ds es)

-- two for each pair
pub pairs-length : (ds : List Need) → length (pair_numbers ds) ≡ 2 * length ds
unfolding pair_numbers
pairs-length [] = refl
pairs-length (d ∷ ds) = omega (arith, pairs-length ds)
