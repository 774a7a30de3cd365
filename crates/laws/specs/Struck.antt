-- Needs that follow from others, struck: which job reaches which, which lists keep the rules, every window, the width, the best list, its boards, and the
-- answer to question 18 stay (document 02, request 5). Assumes nothing.
use Rattle.std.specs.Prelude.{◌≡◌, refl, ◌⊎◌, ◌↔◌, Bool, ℕ, zero, suc, ◌+◌, ◌≤◌, ◌<◌, T, ◌-ℤ◌}
use Rattle.std.proofs.Math.Path.{sym, ap}
use Rattle.std.proofs.Common.{◌∙◌, inl, inr, arith}
use Rattle.std.proofs.Math.Logic.{⊎_elim}
use Rattle.std.proofs.Math.Bool.{not}
use mathlib.Core.List.{List, [], ◌∷◌, map, Memᴰ}
use Rattle.std.proofs.Math.Decide.{ℕ_discrete}
use Rattle.std.proofs.Math.IntN.{pos}
use Rattle.rules.specs.Basics.{at, filter}
use Rattle.rules.specs.Needs.{Need, Gives, givesb, NeedsIn, Chain, one, more, Circle, marked, rounds}
use Rattle.rules.specs.Windows.{release, swap, tail, width}
use Rattle.rules.specs.Table.{needs_kept}
use Rattle.rules.specs.Implied.{Implied, implied_needs, struck}
use Rattle.laws.specs.Tests.{T_not, tests, by-test, bool-ext}
use Rattle.laws.specs.Lists.{filter-mem, filter-mem⁻¹}
use Rattle.laws.specs.Program.{gives-is}
use Rattle.laws.specs.Circles.{none-marked, giver-first, start-in, chain_back, free-marked}
use Rattle.laws.specs.Releases.{Case, nobody, single, double, none-later, case-value, release-at, release-only, release-later}
use Rattle.laws.specs.Deadlines.{swap-gives, reversed-chain, swap-free, swap-in}
use Rattle.laws.specs.Width.{windows-width, width-window}
use Rattle.laws.specs.BoardRules.{nobody}
use Rattle.laws.specs.Implied.{Far, join, far-last, chain-within, far-implied, implied-far, list-is}

-- ds are needs of es, and each need of es that is not one of them has a chain of two needs or more of es beside it
pub record Shorter (es ds : List Need) : Type 0 where
  pub within : (g k : ℕ) → Gives ds g k → Gives es g k
  pub gone : (g k : ℕ) → Gives es g k → Gives ds g k ⊎ Far es g k

-- the needs that do not follow from others are such
pub struck-shorter : {n : ℕ} {needs : List Need} → NeedsIn n needs → ¬ (Circle needs) → Shorter needs (struck (implied_needs n needs) needs)
unfolding struck
struck-shorter {n} {needs} needs-in free = record {
  within = λ g k m. (filter-mem⁻¹ left needs (g, k) m).0;
  gone = λ g k m. go g k m (by-test (givesb ds g k) (gives-is ds g k));
}
  where
    ds : List Need
    ds = implied_needs n needs

    left : Need → Bool
    left d = not (givesb ds d.0 d.1)

    go : (g k : ℕ) → Gives needs g k → Dec (Gives ds g k) → Gives (filter left needs) g k ⊎ Far needs g k
    go g k m (yes w) = inr (implied-far ((list-is needs-in free g k).0 w))
    go g k m (no h) = inl (filter-mem left needs (g, k) m ((T_not (givesb ds g k)).1 (λ t. h ((gives-is ds g k).0 t))))

-- the same of the reversed needs
shorter-swap : {es ds : List Need} → Shorter es ds → Shorter (map swap es) (map swap ds)
shorter-swap {es} {ds} s = record {
  within = λ g k m. (swap-gives es g k).1 (s.within k g ((swap-gives ds g k).0 m));
  gone = λ g k m. ⊎_elim (λ w. inl ((swap-gives ds g k).1 w)) (λ w. inr (turned g k w)) (s.gone k g ((swap-gives es g k).0 m));
}
  where
    turned : (g k : ℕ) → Far es k g → Far (map swap es) g k
    turned g k w =
        let v = far-last es k g w in
        (v.0, (swap-gives es g v.0).1 v.2, reversed-chain es (map swap es) (λ a b m. (swap-gives es b a).1 m) k v.0 v.1)

-- along a chain the starts τ rise where they do with each need
chain-later : (needs : List Need) (τ : ℕ → ℕ) → ((g k : ℕ) → Gives needs g k → τ g + 1 ≤ τ k) → (a c : ℕ) → Chain needs a c → τ a + 1 ≤ τ c
chain-later needs τ h _ _ (one a c m) = h a c m
chain-later needs τ h _ _ (more a b c m r) = omega (arith, h a b m, chain-later needs τ h b c r)

-- a need whose taker starts right after its giver is left, where starts τ rise with each need
pub tight-left : {es ds : List Need} → Shorter es ds → (τ : ℕ → ℕ) → ((g k : ℕ) → Gives es g k → τ g + 1 ≤ τ k)
    → (g k : ℕ) → Gives es g k → τ k ≤ τ g + 1 → Gives ds g k
tight-left {es} s τ h g k m e =
    ⊎_elim (λ w. w) (λ w. absurd (omega (arith, e, h g w.0 w.1, chain-later es τ h w.0 k w.2))) (s.gone g k m)

-- what question 18 asks of a need, with starts t and boards b
abbrev Spaced : List ℕ → List ℕ → Need → Type 0
Spaced t b (g, k) = (at b k ≡ at b g → at t g + 1 ≤ at t k) × ((at b k ≡ at b g → ⊥) → at t g + 2 ≤ at t k)

module _ {n : ℕ} {es ds : List Need} (needs-in : NeedsIn n es) (free : ¬ (Circle es)) (s : Shorter es ds) where
  -- ---- the same reach

  -- what is left is between the jobs
  pub shorter-in : NeedsIn n ds
  shorter-in g k m = needs-in g k (s.within g k m)

  -- and has no circle
  pub shorter-free : ¬ (Circle ds)
  shorter-free (a, c) = free (a, chain-within ds es s.within a a c)

  -- where every chain from a taker of g is kept, a need of k for g is kept as a chain. The test for circles marks k in round e, at most m; a job that a chain
  -- leads from to k it marks in an earlier round
  need-kept : (g : ℕ) → ((b k : ℕ) → Gives es g b → Chain es b k → Chain ds b k)
      → (m e k : ℕ) → e ≤ m → T (marked (rounds n es e) k) → Gives es g k → Chain ds g k
  need-kept g later zero zero k h t a = absurd (none-marked n es k t)
  need-kept g later zero (suc e) k h t a = absurd (omega arith)
  need-kept g later (suc m) e k h t a = ⊎_elim (λ w. one g k w) (λ w.
      let r = chain_back n es needs-in w.0 k e w.2 t in
      join ds g w.0 k (need-kept g later m r.0 w.0 (omega (arith, r.1)) r.2 w.1) (later w.0 k w.1 w.2)) (s.gone g k a)

  -- from the other end, a taker is marked before its giver
  taker-first : (f a b : ℕ) → T (marked (rounds n (map swap es) (suc f)) a) → Gives es a b → T (marked (rounds n (map swap es) f) b)
  taker-first f a b t m = giver-first n (map swap es) (swap-in n es needs-in) f b a ((swap-gives es b a).1 m) t

  -- where every chain from a job that is marked before a is kept, a need for a is kept as a chain
  first-kept : (f a b : ℕ) → T (marked (rounds n (map swap es) (suc f)) a)
      → ((h k : ℕ) → T (marked (rounds n (map swap es) f) h) → Chain es h k → Chain ds h k) → Gives es a b → Chain ds a b
  first-kept f a b t later m =
      need-kept a (λ h k w. later h k (taker-first f a h t w)) n n b (omega arith) (free-marked n es needs-in free b (needs-in a b m).1) m

  -- so every chain is kept; f is a round that marks its first job from the other end
  chain-kept : (f a c : ℕ) → T (marked (rounds n (map swap es) f) a) → Chain es a c → Chain ds a c
  chain-kept zero a c t r = absurd (none-marked n (map swap es) a t)
  chain-kept (suc f) _ _ t (one a c m) = first-kept f a c t (chain-kept f) m
  chain-kept (suc f) _ _ t (more a b c m r) = join ds a b c (first-kept f a b t (chain-kept f) m) (chain-kept f b c (taker-first f a b t m) r)

  -- one job reaches another by what is left exactly where it did
  pub same-reach : (a c : ℕ) → Chain es a c ↔ Chain ds a c
  same-reach a c = (
    λ r. chain-kept n a c (free-marked n (map swap es) (swap-in n es needs-in) (swap-free free) a (start-in n es needs-in a c r)) r,
    chain-within ds es s.within a c,
  )

  -- ---- the same lists

  -- starts that rise with each need that is left rise with each need
  pub later-all : (τ : ℕ → ℕ) → ((g k : ℕ) → Gives ds g k → τ g + 1 ≤ τ k) → (g k : ℕ) → Gives es g k → τ g + 1 ≤ τ k
  later-all τ h g k m = chain-later ds τ h g k ((same-reach g k).0 (one g k m))

  -- question 18 has the same answer, of any starts and boards: where what is left is kept, the taker of another need starts two slots or more after its giver
  pub same-needs-kept : (t b : List ℕ) → needs_kept ds t b ≡ needs_kept es t b
  unfolding needs_kept
  same-needs-kept t b = bool-ext _ _ (λ h. simp tests (asked (simp tests at h))) (λ h. simp tests (λ d m. (simp tests at h) d (s.within d.0 d.1 m)))
    where
      asked : ((d : Need) → Memᴰ d ds → Spaced t b d) → (d : Need) → Memᴰ d es → Spaced t b d
      asked h (g, k) m = ⊎_elim (h (g, k)) far (s.gone g k m)
        where
          rises : (g k : ℕ) → Gives ds g k → at t g + 1 ≤ at t k
          rises g k m = go (ℕ_discrete (at b k) (at b g))
            where
              go : Dec (at b k ≡ at b g) → at t g + 1 ≤ at t k
              go (yes e) = (h (g, k) m).0 e
              go (no e) = omega (arith, (h (g, k) m).1 e)

          far : Far es g k → Spaced t b (g, k)
          far (c, a, r) =
              let p = later-all (at t) rises g c a in
              let q = chain-later es (at t) (later-all (at t) rises) c k r in
              (λ e. omega arith, λ e. omega arith)

  -- ---- the same windows

  -- a giver with the latest release is left
  latest-left : (i j : ℕ) → Gives es j i → ((g : ℕ) → Gives es g i → release n es g ≤ release n es j) → Gives ds j i
  latest-left i j a h = ⊎_elim (λ w. w) (λ w.
      let v = far-last es j i w in
      absurd (omega (arith, h v.0 v.2, chain-later es (release n es) (release-later needs-in free) j v.0 v.1))) (s.gone j i a)

  -- so formula (1) takes the same case
  case-left : (i v : ℕ) → Case es (release n es) i v → Case ds (release n es) i v
  case-left i v (nobody h e) = nobody (λ g a. h g (s.within g i a)) e
  case-left i v (single j a l e) = single j (latest-left i j a (none-later es (release n es) i j l)) (λ g b d. l g (s.within g i b) d) e
  case-left i v (double j k a b d p l e) =
      double j k (latest-left i j a l) (latest-left i k b (λ g c. omega (arith, p, l g c))) d p (λ g c. l g (s.within g i c)) e

  -- each job keeps its release
  pub same-release : (i : ℕ) → i < n → release n ds i ≡ release n es i
  same-release i l = sym (release-only n ds shorter-in shorter-free (release n es) (λ j h.
      case-value ds (release n es) j (release n es j) (case-left j (release n es j) (release-at n es needs-in free j h))) i l)

module _ {n : ℕ} {es ds : List Need} (needs-in : NeedsIn n es) (free : ¬ (Circle es)) (s : Shorter es ds) where
  -- and its tail
  pub same-tail : (i : ℕ) → i < n → tail n ds i ≡ tail n es i
  same-tail = same-release (swap-in n es needs-in) (swap-free free) (shorter-swap s)

  -- so its deadline under every limit L (laws `deadline-formula`, `deadline-only`: it is formula (2))
  pub same-deadline : (L i : ℕ) → i < n → pos L -ℤ pos (tail n ds i) ≡ pos L -ℤ pos (tail n es i)
  same-deadline L i l = ap (λ (a : ℕ). pos L -ℤ pos a) (same-tail i l)

  -- and the file its width
  pub same_width : (L : ℕ) → width n ds L ≡ width n es L
  unfolding width
  same_width L =
      windows-width n es L (release n ds) (λ i. pos L -ℤ pos (tail n ds i)) (same-release needs-in free s) (same-deadline L) ∙ sym (width-window n es L)

-- ---- once is enough

-- of what is left no need follows from others
pub struck-none : {n : ℕ} {needs : List Need} → NeedsIn n needs → ¬ (Circle needs) → implied_needs n (struck (implied_needs n needs) needs) ≡ []
struck-none {n} {needs} needs-in free = empty (implied_needs n ds) (λ (g, k) m. follows g k ((list-is ds-in ds-free g k).0 m))
  where
    ds : List Need
    ds = struck (implied_needs n needs) needs

    s : Shorter needs ds
    s = struck-shorter needs-in free

    ds-in : NeedsIn n ds
    ds-in = shorter-in needs-in free s

    ds-free : ¬ (Circle ds)
    ds-free = shorter-free needs-in free s

    empty : (l : List Need) → ((d : Need) → Memᴰ d l → ⊥) → l ≡ []
    empty [] h = refl
    empty (d ∷ l) h = absurd (h d (Memᴰ.head refl))

    follows : (g k : ℕ) → Implied ds g k → ⊥
    follows g k i =
        let w = implied-far i in
        let far : Far needs g k = (w.0, s.within g w.0 w.1, chain-within ds needs s.within w.0 k w.2) in
        let there = (list-is needs-in free g k).1 (far-implied needs-in free g k (s.within g k i.need) far) in
        unfold struck in
        (T_not (givesb (implied_needs n needs) g k)).0 (filter-mem⁻¹ (λ d. not (givesb (implied_needs n needs) d.0 d.1)) needs (g, k) i.need).1
        ((gives-is (implied_needs n needs) g k).1 there)
