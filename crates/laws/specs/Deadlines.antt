-- Deadlines: without circles formula (2) has one solution, the limit less the tail, and a start list that satisfies P keeps its windows. Assumes nothing.
use Rattle.std.specs.Prelude.{◌≡◌, ◌↔◌, Bool, true, false, cond, ℕ, zero, suc, ◌+◌, ◌-◌, ◌≤◌, ◌<◌, T, ltb, ℤ, pos, negsuc, ◌-ℤ◌, ◌≤ℤ◌, ◌<ℤ◌}
use Rattle.std.proofs.Common.{sym, ap, ◌∙◌, subst, arith}
use mathlib.Core.List.{List, map, Memᴰ}
use Rattle.std.specs.Int.Signed.{≤ℤ_refl}
use Rattle.rules.specs.Basics.{at, Distinct}
use Rattle.rules.specs.Needs.{Need, Gives, NeedsIn, Chain, one, more, Circle, marked, rounds}
use Rattle.rules.specs.Program.{SatisfiesP, Kept}
use Rattle.rules.specs.Windows.{Formula1, Formula2, release_by, releases, release, swap, tail, Holds}
use Rattle.laws.specs.Tests.{T-ltb, tests}
use Rattle.laws.specs.Lists.{map-mem, map-mem⁻¹}
use Rattle.laws.specs.Program.{program-is}
use Rattle.laws.specs.Circles.{snoc, none-marked, giver-first, free-marked}
use Rattle.laws.specs.Releases.{Case, nobody, single, double, release-case, release-step, release-formula, release-le}

-- ---- L - a over the signed numbers

-- its two signs, each with its value
data Diff (L a : ℕ) : ℤ → Type 0 where
  above : a ≤ L → Diff L a (pos (L - a))
  below : L < a → Diff L a (negsuc (a - suc L))

diff : (L a : ℕ) → Diff L a (pos L -ℤ pos a)
diff L zero = subst (λ (x : ℕ). Diff L 0 (pos x)) (omega arith) (above (omega arith))
diff L (suc a) = go (ltb L (suc a)) (T-ltb L (suc a))
  where
    go : (b : Bool) → T b ↔ (L < suc a) → Diff L (suc a) (cond b (negsuc (suc a - suc L)) (pos (L - suc a)))
    go true f = below (f.0 tt)
    go false f = let h : ¬ (L < suc a) = f.1 in above (omega arith)

-- L - a and M - b are equal where the cross sums are
same-diff : (L a M b : ℕ) → L + b ≡ M + a → (x y : ℤ) → Diff L a x → Diff M b y → x ≡ y
same-diff L a M b e _ _ (above p) (above q) = ap pos (omega arith)
same-diff L a M b e _ _ (above p) (below q) = absurd (omega arith)
same-diff L a M b e _ _ (below p) (above q) = absurd (omega arith)
same-diff L a M b e _ _ (below p) (below q) = ap negsuc (omega arith)

diff-zero : (L : ℕ) → pos L ≡ pos L -ℤ pos 0
diff-zero L = ap pos (omega arith)

diff-more : (L a k : ℕ) → (pos L -ℤ pos a) -ℤ pos (suc k) ≡ pos L -ℤ pos (a + suc k)
diff-more L a k = go (pos L -ℤ pos a) (diff L a)
  where
    go : (x : ℤ) → Diff L a x → x -ℤ pos (suc k) ≡ pos L -ℤ pos (a + suc k)
    go _ (above p) = same-diff (L - a) (suc k) L (a + suc k) (omega arith) _ _ (diff (L - a) (suc k)) (diff L (a + suc k))
    go _ (below p) = last (pos L -ℤ pos (a + suc k)) (diff L (a + suc k))
      where
        last : (y : ℤ) → Diff L (a + suc k) y → negsuc (suc ((a - suc L) + k)) ≡ y
        last _ (above q) = absurd (omega arith)
        last _ (below q) = ap negsuc (omega arith)

diff-le : (L a b : ℕ) → ((pos L -ℤ pos a) ≤ℤ (pos L -ℤ pos b)) ↔ (b ≤ a)
diff-le L a b = go (pos L -ℤ pos a) (pos L -ℤ pos b) (diff L a) (diff L b)
  where
    go : (x y : ℤ) → Diff L a x → Diff L b y → (x ≤ℤ y) ↔ (b ≤ a)
    go _ _ (above p) (above q) = (λ h. omega (arith, simp tests at h.le), λ l. record { le = simp tests (omega arith) })
    go _ _ (above p) (below q) = (λ h. absurd h.le, λ l. absurd (omega arith))
    go _ _ (below p) (above q) = (λ h. omega arith, λ l. record { le = tt })
    go _ _ (below p) (below q) = (λ h. omega (arith, simp tests at h.le), λ l. record { le = simp tests (omega arith) })

diff-lt : (L a b : ℕ) → ((pos L -ℤ pos a) <ℤ (pos L -ℤ pos b)) ↔ (b < a)
diff-lt L a b = go (pos L -ℤ pos a) (pos L -ℤ pos b) (diff L a) (diff L b)
  where
    go : (x y : ℤ) → Diff L a x → Diff L b y → (x <ℤ y) ↔ (b < a)
    go _ _ (above p) (above q) = (λ h. omega (arith, simp tests at h.lt), λ l. record { lt = simp tests (omega arith) })
    go _ _ (above p) (below q) = (λ h. absurd h.lt, λ l. absurd (omega arith))
    go _ _ (below p) (above q) = (λ h. omega arith, λ l. record { lt = tt })
    go _ _ (below p) (below q) = (λ h. omega (arith, simp tests at h.lt), λ l. record { lt = simp tests (omega arith) })

diff-eq : (L a b : ℕ) → pos L -ℤ pos a ≡ pos L -ℤ pos b → a ≡ b
diff-eq L a b e = omega (arith, (diff-le L a b).0 (rw e (≤ℤ_refl (pos L -ℤ pos b))), (diff-le L b a).0 (rw e (≤ℤ_refl (pos L -ℤ pos b))))

-- the window test, over the natural numbers
pub holds-is : (L r a s : ℕ) → Holds (pos r) (pos L -ℤ pos a) s ↔ ((r ≤ s) × (s + 1 + a ≤ L))
holds-is L r a s = (
  λ h. (simp tests at h.0.le, (go (pos L -ℤ pos a) (diff L a)).0 h.1),
  λ h. (record { le = simp tests h.0 }, (go (pos L -ℤ pos a) (diff L a)).1 h.1),
)
  where
    go : (x : ℤ) → Diff L a x → (pos (s + 1) ≤ℤ x) ↔ (s + 1 + a ≤ L)
    go _ (above p) = (λ h. omega (arith, simp tests at h.le), λ h. record { le = simp tests (omega arith) })
    go _ (below p) = (λ h. absurd h.le, λ h. absurd (omega arith))

-- ---- reversed needs

-- in the reversed needs takers give to their givers
pub swap-gives : (needs : List Need) (g k : ℕ) → Gives (map swap needs) g k ↔ Gives needs k g
unfolding swap
swap-gives needs g k = (λ m. map-mem⁻¹ (λ d. Memᴰ (swap d) needs) swap needs (λ d w. w) (g, k) m, λ m. map-mem swap needs (k, g) m)

-- a chain of needs, read from its end
pub reversed-chain : (ds es : List Need) → ((g k : ℕ) → Gives ds g k → Gives es k g) → (a b : ℕ) → Chain ds a b → Chain es b a
reversed-chain ds es f _ _ (one a b m) = one b a (f a b m)
reversed-chain ds es f _ _ (more a b c m r) = snoc es c b a (reversed-chain ds es f b c r) (f a b m)

-- where needs have no circle, the reversed needs have none
pub swap-free : {needs : List Need} → ¬ (Circle needs) → ¬ (Circle (map swap needs))
swap-free {needs} free (a, c) = free (a, reversed-chain (map swap needs) needs (λ g k m. (swap-gives needs g k).0 m) a a c)

module _ (n : ℕ) (needs : List Need) (needs-in : NeedsIn n needs) where
  pub swap-in : NeedsIn n (map swap needs)
  swap-in g k m = let w = needs-in k g ((swap-gives needs g k).0 m) in (w.1, w.0)

  module _ (free : ¬ (Circle needs)) (L : ℕ) where
    only : (d : ℕ → ℤ) → ((i : ℕ) → i < n → Formula2 needs L d i) → (f i : ℕ) → i < n → T (marked (rounds n (map swap needs) f) i)
        → d i ≡ pos L -ℤ pos (at (releases n (map swap needs) f) i)
    only d h zero i l t = absurd (none-marked n (map swap needs) i t)
    only d h (suc f) i l t = rw (release-step n f (map swap needs) i l) (go (release_by r (map swap needs) i) (release-case (map swap needs) r i)
        (λ k m. only d h f k (needs-in i k m).1 (giver-first n (map swap needs) swap-in f k i ((swap-gives needs k i).1 m) t)))
      where
        r : ℕ → ℕ
        r k = at (releases n (map swap needs) f) k

        to : (k : ℕ) → Gives (map swap needs) k i → Gives needs i k
        to k m = (swap-gives needs k i).0 m

        go : (v : ℕ) → Case (map swap needs) r i v → ((k : ℕ) → Gives needs i k → d k ≡ pos L -ℤ pos (r k)) → d i ≡ pos L -ℤ pos v
        go v (nobody k e) at-taker = rw e ((h i l).no-taker (λ g m. k g ((swap-gives needs g i).1 m)) ∙ diff-zero L)
        go v (single j a c e) at-taker =
            rw e ((h i l).lone j (to j a) (λ k m q. rw (at-taker j (to j a), at-taker k m) ((diff-lt L (r j) (r k)).1 (c k ((swap-gives needs k i).1 m) q)))
            ∙ ap (λ (z : ℤ). z -ℤ pos 1) (at-taker j (to j a)) ∙ diff-more L (r j) 0)
        go v (double j k a b q p c e) at-taker =
            rw e ((h i l).tied j k (to j a) (to k b) q (at-taker j (to j a) ∙ ap (λ (x : ℕ). pos L -ℤ pos x) p ∙ sym (at-taker k (to k b)))
            (λ g m. rw (at-taker j (to j a), at-taker g m) ((diff-le L (r j) (r g)).1 (c g ((swap-gives needs g i).1 m))))
            ∙ ap (λ (z : ℤ). z -ℤ pos 2) (at-taker j (to j a)) ∙ diff-more L (r j) 1)

    -- what satisfies formula (2) is the limit less the tail
    pub deadline-only : (d : ℕ → ℤ) → ((i : ℕ) → i < n → Formula2 needs L d i) → (i : ℕ) → i < n → d i ≡ pos L -ℤ pos (tail n needs i)
    deadline-only d h i l = only d h n i l (free-marked n (map swap needs) swap-in (swap-free free) i l)

    -- and it does satisfy it
    pub deadline-formula : (i : ℕ) → i < n → Formula2 needs L (λ i. pos L -ℤ pos (tail n needs i)) i
    deadline-formula i l =
        record {
          no-taker = λ k. rw (f.no-giver (λ g m. k g ((swap-gives needs g i).0 m))) (sym (diff-zero L));
          lone = λ j a c. ap due (f.lone j ((swap-gives needs j i).1 a) (λ g m q. (diff-lt L (r j) (r g)).0 (c g ((swap-gives needs g i).0 m) q)))
              ∙ sym (diff-more L (r j) 0);
          tied = λ j k a b q p c. ap due (f.tied j k ((swap-gives needs j i).1 a) ((swap-gives needs k i).1 b) q (diff-eq L (r j) (r k) p)
              (λ g m. (diff-le L (r j) (r g)).0 (c g ((swap-gives needs g i).0 m)))) ∙ sym (diff-more L (r j) 1);
        }
      where
        r : ℕ → ℕ
        r k = tail n needs k

        due : ℕ → ℤ
        due x = pos L -ℤ pos x

        f : Formula1 (map swap needs) r i
        f = release-formula n (map swap needs) swap-in (swap-free free) i l

  -- ---- time reversed: tails are releases

  module _ (C : ℕ) (τ : ℕ → ℕ) (kept : Kept (Gives needs) τ) (below-C : (i : ℕ) → i < n → τ i < C) where
    -- starts counted from the makespan back keep the reversed needs
    swap-kept : Kept (Gives (map swap needs)) (λ i. C - suc (τ i))
    swap-kept = record {
      later = λ g k m. let a = (swap-gives needs g k).0 m in omega (arith, kept.later k g a, below-C g (needs-in k g a).1);
      give-one = λ g j k m w p q. let a = (swap-gives needs g j).0 m in let b = (swap-gives needs g k).0 w in
          kept.take-one j k g a b (omega (arith, below-C g (needs-in j g a).1, below-C j (needs-in j g a).0))
          (omega (arith, below-C g (needs-in j g a).1, below-C k (needs-in k g b).0));
      take-one = λ i j k m w p q. let a = (swap-gives needs i k).0 m in let b = (swap-gives needs j k).0 w in
          kept.give-one k i j a b (omega (arith, below-C i (needs-in k i a).1, below-C k (needs-in k i a).0))
          (omega (arith, below-C j (needs-in k j b).1, below-C k (needs-in k i a).0));
    }

    -- the tail of a job fits between its end and the makespan, whatever the number f of rounds
    pub tail-le : (f i : ℕ) → i < n → τ i + 1 + at (releases n (map swap needs) f) i ≤ C
    tail-le f i h = omega (arith, release-le (map swap needs) (λ i. C - suc (τ i)) swap-kept n f i, below-C i h)

-- a start list that satisfies P keeps its windows
pub windows-kept : (n : ℕ) (needs : List Need) (C : ℕ) (t : List ℕ) → Distinct needs → NeedsIn n needs → SatisfiesP n needs C t
    → (i : ℕ) → i < n → Holds (pos (release n needs i)) (pos C -ℤ pos (tail n needs i)) (at t i)
windows-kept n needs C t u needs-in s i h =
    let w = (program-is n needs C t u needs-in).0 s in
    (holds-is C (release n needs i) (tail n needs i) (at t i)).1 (
      release-le needs (at t) w.0 n n i,
      tail-le n needs needs-in C (at t) w.0 w.1.below n i h,
    )
