-- A part of a file: jobs that no need joins to the others, a union of components of the precedence graph. Without a circle it has the windows that it has
-- alone and is no wider than the whole; where every job is in a part, the rules that the parts keep are kept by the whole. Assumes nothing.
use Rattle.std.specs.Prelude.{◌≡◌, refl, List, map, T}
use Rattle.std.proofs.Common.{sym, ap, ◌∙◌, arith}
use Rattle.std.proofs.Math.Bool.{Bool}
use Prim.Native.Nat.{ℕ, ◌+◌, ◌≤◌, ◌<◌}
use Rattle.rules.specs.Basics.{count, most}
use Rattle.rules.specs.Needs.{Need, Gives, NeedsIn, Chain, one, more, Circle}
use Rattle.rules.specs.Program.{Kept}
use Rattle.rules.specs.Windows.{Formula1, release, swap, tail, width}
use Rattle.laws.specs.Counting.{pigeonhole-by, passing, passing-in, passing-distinct, most-ge, most-le}
use Rattle.laws.specs.Circles.{start-in}
use Rattle.laws.specs.Releases.{Case, nobody, single, double, case-value, release-at, release-only}
use Rattle.laws.specs.Deadlines.{swap-gives, swap-free, swap-in}
use Rattle.laws.specs.Width.{window, window-is, width-window}

-- job i of the k jobs with the needs es is job f i of the n jobs with the needs ds, and has the same givers and takers there
pub record Part (k n : ℕ) (es ds : List Need) (f : ℕ → ℕ) : Type 0 where
  pub part_in : NeedsIn k es
  pub whole_in : NeedsIn n ds
  pub once : (i j : ℕ) → f i ≡ f j → i ≡ j
  pub inside : (i : ℕ) → i < k → f i < n
  pub needs : (a b : ℕ) → Gives es a b → Gives ds (f a) (f b)
  pub givers : (g i : ℕ) → i < k → Gives ds g (f i) → (a : ℕ) × Gives es a i × (g ≡ f a)
  pub takers : (i c : ℕ) → i < k → Gives ds (f i) c → (a : ℕ) × Gives es i a × (c ≡ f a)

-- the same with time reversed
part-swap : {k n : ℕ} {es ds : List Need} {f : ℕ → ℕ} → Part k n es ds f → Part k n (map swap es) (map swap ds) f
part-swap {k} {n} {es} {ds} {f} p = record {
  part_in = swap-in k es p.part_in;
  whole_in = swap-in n ds p.whole_in;
  once = p.once;
  inside = p.inside;
  needs = λ a b h. (swap-gives ds (f a) (f b)).1 (p.needs b a ((swap-gives es a b).0 h));
  givers = λ g i l h. let w = p.takers i g l ((swap-gives ds g (f i)).0 h) in (w.0, (swap-gives es w.0 i).1 w.1, w.2);
  takers = λ i c l h. let w = p.givers c i l ((swap-gives ds (f i) c).0 h) in (w.0, (swap-gives es i w.0).1 w.1, w.2);
}

-- ---- chains, and the rules kept

module _ {k n : ℕ} {es ds : List Need} {f : ℕ → ℕ} (p : Part k n es ds f) where
  -- a chain of the part is one of the whole
  chain-whole : (a b : ℕ) → Chain es a b → Chain ds (f a) (f b)
  chain-whole _ _ (one a b m) = one (f a) (f b) (p.needs a b m)
  chain-whole _ _ (more a b c m r) = more (f a) (f b) (f c) (p.needs a b m) (chain-whole b c r)

  -- and one of the whole from a job of the part stays in the part
  chain-part : (i x c : ℕ) → i < k → x ≡ f i → Chain ds x c → (a : ℕ) × Chain es i a × (c ≡ f a)
  chain-part i _ _ h e (one x c m) = let w = p.takers i c h (rw e at m) in (w.0, one i w.0 w.1, w.2)
  chain-part i _ _ h e (more x b c m r) =
      let w = p.takers i b h (rw e at m) in
      let v = chain-part w.0 b c (p.part_in i w.0 w.1).1 w.2 r in
      (v.0, more i w.0 v.0 w.1 v.1, v.2)

  -- without a circle in the whole there is none in the part
  pub part_free : ¬ (Circle ds) → ¬ (Circle es)
  part_free free (a, c) = free (f a, chain-whole a a c)

  -- starts that keep the needs of the whole keep those of the part
  pub part-kept : (τ ρ : ℕ → ℕ) → ((i : ℕ) → i < k → ρ i ≡ τ (f i)) → Kept (Gives ds) τ → Kept (Gives es) ρ
  part-kept τ ρ same kept = record {
    later = λ g j a. omega (arith, giver g j a, taker g j a, kept.later (f g) (f j) (p.needs g j a));
    give-one = λ g i j a b x y. p.once i j (kept.give-one (f g) (f i) (f j) (p.needs g i a) (p.needs g j b)
        (omega (arith, giver g i a, taker g i a, x)) (omega (arith, giver g j b, taker g j b, y)));
    take-one = λ i j c a b x y. p.once i j (kept.take-one (f i) (f j) (f c) (p.needs i c a) (p.needs j c b)
        (omega (arith, giver i c a, taker i c a, x)) (omega (arith, giver j c b, taker j c b, y)));
  }
    where
      giver : (g j : ℕ) → Gives es g j → ρ g ≡ τ (f g)
      giver g j a = same g (p.part_in g j a).0

      taker : (g j : ℕ) → Gives es g j → ρ j ≡ τ (f j)
      taker g j a = same j (p.part_in g j a).1

-- keeping the needs is a matter of the starts of the jobs alone: a whole is a part of itself
pub same_kept : (n : ℕ) (ds : List Need) → NeedsIn n ds → (τ ρ : ℕ → ℕ) → ((i : ℕ) → i < n → ρ i ≡ τ i) → Kept (Gives ds) τ → Kept (Gives ds) ρ
same_kept n ds ds-in = part-kept {f = λ i. i} record {
  part_in = ds-in;
  whole_in = ds-in;
  once = λ i j e. e;
  inside = λ i h. h;
  needs = λ g j a. a;
  givers = λ g i h a. (g, a, refl);
  takers = λ i c h a. (c, a, refl);
}

-- job j of the n jobs with the needs ds is the job at `index` of a part with `size` jobs
pub record InPart (n : ℕ) (ds : List Need) (j : ℕ) : Type 0 where
  pub size : ℕ
  pub needs : List Need
  pub place : ℕ → ℕ
  pub part : Part size n needs ds place
  pub index : ℕ
  pub index_in : index < size
  pub job_is : j ≡ place index

-- job j is in a part whose needs the starts τ keep
abbrev pub KeptPart : ℕ → List Need → (ℕ → ℕ) → ℕ → Type 0
KeptPart n ds τ j = (w : InPart n ds j) × Kept (Gives w.needs) (λ i. τ (w.place i))

-- n jobs with the needs ds
module _ (n : ℕ) (ds : List Need) (ds-in : NeedsIn n ds) where
  -- where each job is in a part without a circle there is none
  pub parts_free : ((j : ℕ) → j < n → (w : InPart n ds j) × ¬ (Circle w.needs)) → ¬ (Circle ds)
  parts_free parts (a, c) = go (parts a (start-in n ds ds-in a a c))
    where
      go : (w : InPart n ds a) × ¬ (Circle w.needs) → ⊥
      go (w, free) =
          let v = chain-part w.part w.index a a w.index_in w.job_is c in
          let e : w.index ≡ v.0 = w.part.once w.index v.0 (sym w.job_is ∙ v.2) in
          free (w.index, rw (← e) at v.1)

  -- where each job is in a part whose needs the starts τ keep, they keep all
  pub parts-kept : (τ : ℕ → ℕ) → ((j : ℕ) → j < n → KeptPart n ds τ j) → Kept (Gives ds) τ
  parts-kept τ parts = record {
    later = λ g c a. later g c a (parts g (ds-in g c a).0);
    give-one = λ g i j a b x y. gives g i j a b x y (parts g (ds-in g i a).0);
    take-one = λ i j c a b x y. takes i j c a b x y (parts c (ds-in i c a).1);
  }
    where
      later : (g c : ℕ) → Gives ds g c → KeptPart n ds τ g → τ g + 1 ≤ τ c
      later g c a (w, k) =
          let u = w.part.takers w.index c w.index_in (rw w.job_is at a) in
          omega (arith, ap τ w.job_is, ap τ u.2, k.later w.index u.0 u.1)

      gives : (g i j : ℕ) → Gives ds g i → Gives ds g j → τ i ≡ τ g + 1 → τ j ≡ τ g + 1 → KeptPart n ds τ g → i ≡ j
      gives g i j a b x y (w, k) =
          let u = w.part.takers w.index i w.index_in (rw w.job_is at a) in
          let v = w.part.takers w.index j w.index_in (rw w.job_is at b) in
          let e = k.give-one w.index u.0 v.0 u.1 v.1
          (omega (arith, ap τ w.job_is, ap τ u.2, x)) (omega (arith, ap τ w.job_is, ap τ v.2, y)) in
          u.2 ∙ ap w.place e ∙ sym v.2

      takes : (i j c : ℕ) → Gives ds i c → Gives ds j c → τ i + 1 ≡ τ c → τ j + 1 ≡ τ c → KeptPart n ds τ c → i ≡ j
      takes i j c a b x y (w, k) =
          let u = w.part.givers i w.index w.index_in (rw w.job_is at a) in
          let v = w.part.givers j w.index w.index_in (rw w.job_is at b) in
          let e = k.take-one u.0 v.0 w.index u.1 v.1
          (omega (arith, ap τ w.job_is, ap τ u.2, x)) (omega (arith, ap τ w.job_is, ap τ v.2, y)) in
          u.2 ∙ ap w.place e ∙ sym v.2

-- ---- windows and width

-- formula (1) says the same of a job in both
case-part : {k n : ℕ} {es ds : List Need} {f : ℕ → ℕ} → Part k n es ds f → (r : ℕ → ℕ) (i v : ℕ) → i < k → Case ds r (f i) v → Case es (λ a. r (f a)) i v
case-part {f = f} p r i v l (nobody h e) = nobody (λ g a. h (f g) (p.needs g i a)) e
case-part {f = f} p r i v l (single j a h e) =
    let w = p.givers j i l a in
    let q : r j ≡ r (f w.0) = ap r w.2 in
    single w.0 w.1 (λ g b d. omega (arith, q, h (f g) (p.needs g i b) (λ s. d (p.once g w.0 (s ∙ w.2))))) (omega (arith, e, q))
case-part {f = f} p r i v l (double j c a b d e h x) =
    let w = p.givers j i l a in
    let y = p.givers c i l b in
    let q : r j ≡ r (f w.0) = ap r w.2 in
    let z : r c ≡ r (f y.0) = ap r y.2 in
    double w.0 y.0 w.1 y.1 (λ s. d (w.2 ∙ ap f s ∙ sym y.2)) (omega (arith, q, z, e))
    (λ g m. omega (arith, q, h (f g) (p.needs g i m))) (omega (arith, x, q))

-- without a circle a job has the release in the whole that it has in the part
pub part-release : {k n : ℕ} {es ds : List Need} {f : ℕ → ℕ} → Part k n es ds f → ¬ (Circle ds) → (i : ℕ) → i < k → release n ds (f i) ≡ release k es i
part-release {k} {n} {es} {ds} {f} p free i l = release-only k es p.part_in (part_free p free) dates formula i l
  where
    dates : ℕ → ℕ
    dates j = release n ds (f j)

    formula : (j : ℕ) → j < k → Formula1 es dates j
    formula j h = case-value es dates j (dates j) (case-part p (release n ds) j (dates j) h (release-at n ds p.whole_in free (f j) (p.inside j h)))

module _ {k n : ℕ} {es ds : List Need} {f : ℕ → ℕ} (p : Part k n es ds f) (free : ¬ (Circle ds)) where
  -- and the tail
  pub part-tail : (i : ℕ) → i < k → tail n ds (f i) ≡ tail k es i
  part-tail i l = part-release (part-swap p) (swap-free free) i l

  -- so the part is no wider than the whole
  pub part-width : (L : ℕ) → width k es L ≤ width n ds L
  unfolding count
  part-width L = rw (width-window k es L, width-window n ds L) (most-le (λ s. count (part s) k) L (most (λ s. count (whole s) n) L) (λ s h.
      omega (arith, narrower s, most-ge (λ s. count (whole s) n) L s h)))
    where
      part : ℕ → ℕ → Bool
      part s = window (release k es) (tail k es) L s

      whole : ℕ → ℕ → Bool
      whole s = window (release n ds) (tail n ds) L s

      held : (s x : ℕ) → x < k → T (part s x) → T (whole s (f x))
      held s x h t =
          let v = (window-is (release k es) (tail k es) L s x).0 t in
          (window-is (release n ds) (tail n ds) L s (f x)).1 (omega (arith, part-release p free x h, v.0), omega (arith, part-tail x h, v.1))

      narrower : (s : ℕ) → count (part s) k ≤ count (whole s) n
      narrower s = pigeonhole-by (λ x y. y ≡ f x) (passing (part s) k) (passing (whole s) n) (passing-distinct (part s) k) (λ x m.
          let w = (passing-in (part s) k x).0 m in
          (f x, (passing-in (whole s) n (f x)).1 (p.inside x w.0, held s x w.0 w.1), refl)) (λ x y z _ _ a b. p.once x y (sym a ∙ b))
