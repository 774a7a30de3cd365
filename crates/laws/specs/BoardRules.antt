-- The rules with boards imply the rules without, and the parts of the giving of boards: a giver in the slot before, the lowest free board, sweeps.
-- Assumes nothing.
use Rattle.std.specs.Prelude.{◌≡◌, ◌≢◌, ◌⊎◌, Bool, true, false, ◌&&◌, ℕ, zero, suc, ◌+◌, ◌≤◌, ◌<◌, length, T, eqb}
use Rattle.std.proofs.Common.{sym, ap, ◌∙◌, inl, inr, arith, add-zero}
use mathlib.Core.List.Memᴰ
use mathlib.Core.List.{List, [], ◌∷◌, Memᴰ}
use Rattle.std.proofs.Math.Option.{Option, none, some}
use Rattle.std.proofs.Math.Decide.{ℕ_discrete, dec_lt}
use Rattle.rules.specs.Basics.{choose, at, has, range}
use Rattle.rules.specs.Needs.{Need, Gives, NeedsIn}
use Rattle.rules.specs.Program.{Kept}
use Rattle.rules.specs.Boards.{BoardRules, sweep, giver_before, lowest_free}
use Rattle.laws.specs.Tests.{T-has, tests}
use Rattle.laws.specs.Lists.{range-in, range-rising}
use Rattle.laws.specs.Counting.{pigeonhole, rising-distinct, length-range}

-- starts with boards that keep the rules with boards keep the rules without
pub rules-kept : (n : ℕ) (needs : List Need) (t b : List ℕ) → NeedsIn n needs → BoardRules n needs t b → Kept (Gives needs) (at t)
rules-kept n needs t b needs-in rules = record {
  later = λ g k a. later g k a (ℕ_discrete (at b k) (at b g));
  give-one = λ g j k a c p q. rules.apart j k (needs-in g j a).1 (needs-in g k c).1 (p ∙ sym q) (beside g j a p (ℕ_discrete (at b j) (at b g))
      ∙ sym (beside g k c q (ℕ_discrete (at b k) (at b g))));
  take-one = λ i j k a c p q. rules.apart i j (needs-in i k a).0 (needs-in j k c).0 (omega (arith, p, q))
      (sym (beside i k a (sym p) (ℕ_discrete (at b k) (at b i))) ∙ beside j k c (sym q) (ℕ_discrete (at b k) (at b j)));
}
  where
    later : (g k : ℕ) → Gives needs g k → Dec (at b k ≡ at b g) → at t g + 1 ≤ at t k
    later g k a (yes e) = rules.same g k a e
    later g k a (no e) = omega (arith, rules.other g k a e)

    beside : (g k : ℕ) → Gives needs g k → at t k ≡ at t g + 1 → Dec (at b k ≡ at b g) → at b k ≡ at b g
    beside g k a p (yes e) = e
    beside g k a p (no e) = absurd (omega (arith, rules.other g k a e))

-- ---- a giver in the slot before

-- what the answer of giver_before says
pub data GiverBefore (needs : List Need) (t : List ℕ) (i : ℕ) : Option ℕ → Type 0 where
  nobody : ((g : ℕ) → Gives needs g i → at t g + 1 ≢ at t i) → GiverBefore needs t i none
  giver : (g : ℕ) → Gives needs g i → at t g + 1 ≡ at t i → GiverBefore needs t i (some g)

pub giver-before : (needs : List Need) (t : List ℕ) (i : ℕ) → GiverBefore needs t i (giver_before needs t i)
unfolding giver_before choose
giver-before [] t i = nobody (λ g m. absurd (Memᴰ.not-nil m))
giver-before (d ∷ ds) t i = go (eqb d.1 i && eqb (at t d.0 + 1) (at t i)) (λ h. simp tests at h) (λ h. simp tests h) (giver_before ds t i)
    (giver-before ds t i)
  where
    go : (b : Bool) → (T b → (d.1 ≡ i) × (at t d.0 + 1 ≡ at t i)) → ((d.1 ≡ i) × (at t d.0 + 1 ≡ at t i) → T b)
        → (o : Option ℕ) → GiverBefore ds t i o → GiverBefore (d ∷ ds) t i (choose b (some d.0) o)
    go true f h o r = giver d.0 (Memᴰ.head (λ k. (d.0, sym (f tt).0 k))) (f tt).1
    go false f h _ (nobody k) = nobody (λ g m. each g (Memᴰ.cases_cons m))
      where
        each : (g : ℕ) → (◌≡◌ {A = Need} (g, i) d) ⊎ Gives ds g i → at t g + 1 ≢ at t i
        each g (inl e) = λ q. h (λ k. (sym e k).1, ap (λ (x : ℕ). at t x + 1) (λ k. (sym e k).0) ∙ q)
        each g (inr m) = k g m
    go false f h _ (giver g m e) = giver g (Memᴰ.tail m) e

-- ---- the lowest free board

-- every board below it is in use
pub lowest-all : (k c : ℕ) (u : List ℕ) (j : ℕ) → c ≤ j → j < lowest_free k c u → Memᴰ j u
unfolding lowest_free choose
lowest-all zero c u j l h = absurd (omega arith)
lowest-all (suc k) c u j l h = go (has c u) (T-has c u).0 h (ℕ_discrete j c) (λ a b. lowest-all k (suc c) u j a b)
  where
    go : (b : Bool) → (T b → Memᴰ c u) → j < choose b (lowest_free k (suc c) u) c → Dec (j ≡ c) → (suc c ≤ j → j < lowest_free k (suc c) u → Memᴰ j u)
        → Memᴰ j u
    go true f h (yes e) r = rw e (f tt)
    go true f h (no e) r = r (omega arith) h
    go false f h d r = absurd (omega arith)

lowest-stop : (k c : ℕ) (u : List ℕ) → lowest_free k c u < c + k → ¬ (Memᴰ (lowest_free k c u) u)
unfolding lowest_free choose
lowest-stop zero c u h = absurd (omega arith)
lowest-stop (suc k) c u h = go (has c u) (T-has c u).1 h (lowest-stop k (suc c) u)
  where
    go : (b : Bool) → (Memᴰ c u → T b) → choose b (lowest_free k (suc c) u) c < c + suc k
        → (lowest_free k (suc c) u < suc c + k → ¬ (Memᴰ (lowest_free k (suc c) u) u)) → ¬ (Memᴰ (choose b (lowest_free k (suc c) u) c) u)
    go true f h r = r (omega arith)
    go false f h r = λ m. f m

pub lowest-in : (k c : ℕ) (u : List ℕ) → (c ≤ lowest_free k c u) × (lowest_free k c u ≤ c + k)
unfolding lowest_free choose
lowest-in zero c u = omega arith
lowest-in (suc k) c u = go (has c u) (lowest-in k (suc c) u)
  where
    go : (b : Bool) → (suc c ≤ lowest_free k (suc c) u) × (lowest_free k (suc c) u ≤ suc c + k) → (c ≤ choose b (lowest_free k (suc c) u) c)
        × (choose b (lowest_free k (suc c) u) c ≤ c + suc k)
    go true r = omega arith
    go false r = omega arith

-- with as many steps as u has boards it is free
pub lowest-new : (k : ℕ) (u : List ℕ) → length u ≤ k → ¬ (Memᴰ (lowest_free k 1 u) u)
lowest-new k u h m = omega (arith, length-range (suc k) 1, pigeonhole (range (suc k) 1) u (rising-distinct (range (suc k) 1) (range-rising (suc k) 1)) all_in)
  where
    r : ℕ
    r = lowest_free k 1 u

    last : Dec (r < 1 + k) → r ≡ 1 + k
    last (yes h) = absurd (lowest-stop k 1 u h m)
    last (no h) = omega (arith, lowest-in k 1 u)

    all_in : (y : ℕ) → Memᴰ y (range (suc k) 1) → Memᴰ y u
    all_in y w = go (range-in (suc k) 1 y w) (ℕ_discrete y r)
      where
        go : (1 ≤ y) × (y < 1 + suc k) → Dec (y ≡ r) → Memᴰ y u
        go l (yes e) = rw e m
        go l (no e) = lowest-all k 1 u y l.0 (omega (arith, last (dec_lt r (1 + k))))

-- ---- sweeps

-- what each step keeps holds at the end
pub sweep-inv : {A : Type 0} (P : ℕ → A → Type 0) (f : ℕ → A → A) (k i : ℕ) → ((j : ℕ) (z : A) → i ≤ j → j < i + k → P j z → P (suc j) (f j z)) → (z : A)
    → P i z → P (i + k) (sweep f k i z)
unfolding sweep
sweep-inv P f zero i h z p = rw add-zero p
sweep-inv P f (suc k) i h z p =
    let e : suc i + k ≡ i + suc k = omega arith in
    rw e at (sweep-inv P f k (suc i) (λ j y a b. h j y (omega arith) (omega arith)) (f i z) (h i z (omega arith) (omega arith) p))
