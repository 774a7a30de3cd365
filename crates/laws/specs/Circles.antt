-- Circles of needs: the test that marks jobs in rounds finds a circle exactly where there is one. Assumes nothing.
use Rattle.std.specs.Prelude.{◌≡◌, ◌⊎◌, ◌↔◌, Bool, true, false, length, replicate, eqb}
use Rattle.std.proofs.Math.Path.{refl}
use Rattle.std.proofs.Common.{ap, ◌∙◌, arith, zero-add}
use Rattle.std.proofs.Math.Logic.{inl, inr}
use mathlib.Core.List.Memᴰ
use mathlib.Core.List.{List, [], ◌∷◌, Memᴰ}
use Prim.Native.Nat.{ℕ, zero, suc, ◌≤◌, ◌<◌}
use Rattle.std.proofs.Math.Dec.{T}
use Rattle.rules.specs.Basics.{imp, all, range, Distinct}
use Rattle.rules.specs.Needs.{Need, Gives, NeedsIn, Chain, one, more, Circle, marked, givers_marked, rounds, circle_free}
use Rattle.laws.specs.Tests.{T-eqb, T-all, not-all, not-imp, tests}
use Rattle.laws.specs.Lists.{dec_mem, tabulate-at}
use Rattle.laws.specs.Counting.{pigeonhole, range-below, length-range}

-- a chain, and a need more at its end
pub snoc : (needs : List Need) (a b c : ℕ) → Chain needs a b → Gives needs b c → Chain needs a c
snoc needs _ _ c (one a b m) w = more a b c m (one b c w)
snoc needs _ _ c (more a d b m r) w = more a d c m (snoc needs d b c r w)

-- ---- the rounds

-- before the first round no job is marked
pub none-marked : (n : ℕ) (needs : List Need) (i : ℕ) → T (marked (rounds n needs 0) i) → ⊥
unfolding rounds
none-marked n needs i h = go n i h
  where
    go : (n i : ℕ) → T (marked (replicate n false) i) → ⊥
    go zero i h = h
    go (suc n) zero h = h
    go (suc n) (suc i) h = go n i h

round-step : (n f : ℕ) (needs : List Need) (i : ℕ) → i < n → marked (rounds n needs (suc f)) i ≡ givers_marked needs (rounds n needs f) i
unfolding rounds
round-step n f needs i h = tabulate-at (givers_marked needs (rounds n needs f)) n 0 i false h ∙ ap (givers_marked needs (rounds n needs f)) (zero-add i)

module _ (n : ℕ) (needs : List Need) (needs-in : NeedsIn n needs) where
  -- the givers of a job that is marked were marked the round before
  pub giver-first : (f g k : ℕ) → Gives needs g k → T (marked (rounds n needs (suc f)) k) → T (marked (rounds n needs f) g)
  unfolding givers_marked
  giver-first f g k a t = (simp tests at (rw (round-step n f needs k (needs-in g k a).1) at t)) (g, k) a refl

  -- a chain begins with a job
  pub start-in : (a b : ℕ) → Chain needs a b → a < n
  start-in _ _ (one a b m) = (needs-in a b m).0
  start-in _ _ (more a b c m r) = (needs-in a b m).0

  -- ---- a job that is marked is on no circle

  pub chain_back : (a b f : ℕ) → Chain needs a b → T (marked (rounds n needs f) b) → (h : ℕ) × (h < f) × T (marked (rounds n needs h) a)
  chain_back a b zero c t = absurd (none-marked n needs b t)
  chain_back _ _ (suc f) (one a b m) t = (f, omega arith, giver-first f a b m t)
  chain_back _ _ (suc f) (more a b c m r) t = go (chain_back b c (suc f) r t)
    where
      go : (h : ℕ) × (h < suc f) × T (marked (rounds n needs h) b) → (h : ℕ) × (h < suc f) × T (marked (rounds n needs h) a)
      go (zero, l, w) = absurd (none-marked n needs b w)
      go (suc h, l, w) = (h, omega arith, giver-first h a b m w)

  marked-free : (m f a : ℕ) → f ≤ m → T (marked (rounds n needs f) a) → Chain needs a a → ⊥
  marked-free zero f a l t c = let w = chain_back a a f c t in omega (arith, w.1)
  marked-free (suc m) f a l t c = let w = chain_back a a f c t in marked-free m w.0 a (omega (arith, w.1)) w.2 c

  -- ---- from a job that is not marked after n rounds there is a walk back of n needs, and it meets a job twice

  Walk : ℕ → List ℕ → Type 0
  Walk i [] = Unit {0}
  Walk i (v ∷ vs) = Gives needs v i × Walk v vs

  walk-chain : (i : ℕ) (vs : List ℕ) → Walk i vs → (y : ℕ) → Memᴰ y vs → Chain needs y i
  unfolding Walk
  walk-chain i [] w y m = absurd (Memᴰ.not-nil m)
  walk-chain i (v ∷ vs) w y m = go (Memᴰ.cases_cons m) (walk-chain v vs w.1 y)
    where
      go : (y ≡ v) ⊎ Memᴰ y vs → (Memᴰ y vs → Chain needs y v) → Chain needs y i
      go (inl e) r = one y i (rw e w.0)
      go (inr k) r = snoc needs y v i (r k) w.0

  walk-or : (i : ℕ) (vs : List ℕ) → Walk i vs → Distinct (i ∷ vs) ⊎ Circle needs
  unfolding Walk
  walk-or i [] w = inl (λ m. Memᴰ.not-nil m, tt)
  walk-or i (v ∷ vs) w = go (dec_mem i (v ∷ vs)) (walk-or v vs w.1)
    where
      go : Dec (Memᴰ i (v ∷ vs)) → Distinct (v ∷ vs) ⊎ Circle needs → Distinct (i ∷ v ∷ vs) ⊎ Circle needs
      go (yes m) r = inr (i, walk-chain i (v ∷ vs) w i m)
      go (no k) (inl d) = inl (k, d)
      go (no k) (inr c) = inr c

  walk-back : (f i : ℕ) → i < n → ¬ T (marked (rounds n needs f) i) → (vs : List ℕ) × (length vs ≡ f) × Walk i vs
  unfolding Walk
  walk-back zero i h t = ([], refl, tt)
  walk-back (suc f) i h t = go (not-all (λ d. imp (eqb d.1 i) (marked (rounds n needs f) d.0)) needs stuck) (walk-back f)
    where
      stuck : ¬ T (all (λ (d : Need). imp (eqb d.1 i) (marked (rounds n needs f) d.0)) needs)
      stuck k = unfold givers_marked in t (rw (round-step n f needs i h) k)

      go : (d : Need) × Memᴰ d needs × ¬ T (imp (eqb d.1 i) (marked (rounds n needs f) d.0))
          → ((j : ℕ) → j < n → ¬ T (marked (rounds n needs f) j) → (vs : List ℕ) × (length vs ≡ f) × Walk j vs) → (vs : List ℕ) × (length vs ≡ suc f)
          × Walk i vs
      go (d, m, k) r =
          let c = not-imp (eqb d.1 i) (marked (rounds n needs f) d.0) k in
          let w = r d.0 (needs-in d.0 d.1 m).0 c.1 in
          (d.0 ∷ w.0, ap suc w.1, (rw (← ((T-eqb d.1 i).0 c.0)) m, w.2))

  repeats : (i : ℕ) → i < n → ¬ T (marked (rounds n needs n) i) → Circle needs
  repeats i h t = let w = walk-back n i h t in go w.0 w.1 w.2 (walk-or i w.0 w.2)
    where
      go : (vs : List ℕ) → length vs ≡ n → Walk i vs → Distinct (i ∷ vs) ⊎ Circle needs → Circle needs
      go vs len w (inl d) = absurd (omega (
        arith,
        len,
        length-range n 0,
        pigeonhole (i ∷ vs) (range n 0) d (λ y m. (range-below n y).1 (below y (Memᴰ.cases_cons m))),
      ))
        where
          below : (y : ℕ) → (y ≡ i) ⊎ Memᴰ y vs → y < n
          below y (inl e) = omega arith
          below y (inr m) = start-in y i (walk-chain i vs w y m)
      go vs len w (inr c) = c

  -- without circles n rounds mark every job
  pub free-marked : ¬ (Circle needs) → (i : ℕ) → i < n → T (marked (rounds n needs n) i)
  free-marked none i h = go (marked (rounds n needs n) i) (λ t. none (repeats i h t))
    where
      go : (b : Bool) → (¬ T b → ⊥) → T b
      go true k = tt
      go false k = k (λ t. t)

  -- the test of question 11 says just that there is no circle
  pub circle-free : T (circle_free n needs) ↔ (¬ (Circle needs))
  unfolding circle_free
  circle-free = (
    λ t c. marked-free n n c.0 (omega arith)
        ((T-all (marked (rounds n needs n)) (range n 0)).0 t c.0 ((range-below n c.0).1 (start-in c.0 c.0 c.1))) c.1,
    λ k. (T-all (marked (rounds n needs n)) (range n 0)).1 (λ i m. free-marked k i ((range-below n i).0 m)),
  )

  -- where it fails there is one
  pub circle-found : ¬ T (circle_free n needs) → Circle needs
  unfolding circle_free
  circle-found h = let (i, m, k) = not-all (marked (rounds n needs n)) (range n 0) h in repeats i ((range-below n i).0 m) k
