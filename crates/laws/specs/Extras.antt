-- Extra jobs behind those of a gate, which no need joins to them (document 02, request 12), over start lists: where the extras alone need no more slots than
-- the gate alone, every job of the gate keeps its start. Assumes nothing.
use Rattle.std.specs.Prelude.{◌≡◌, refl, ◌⊎◌, ◌↔◌, ℕ, ◌+◌, ◌≤◌, ◌<◌, max, take, drop}
use Rattle.std.proofs.Common.{sym, ap, ◌∙◌, inl, inr, ⊎_elim, arith, length-append, length-drop, take-append-drop, length-take-le}
use mathlib.Core.List.Memᴰ
use mathlib.Core.List.{List, [], ◌∷◌, ◌++◌, map, Memᴰ}
use Rattle.std.proofs.Math.Option.{some}
use Rattle.rules.specs.Basics.{at, largest}
use Rattle.rules.specs.Needs.{Need, Gives, NeedsIn}
use Rattle.rules.specs.Program.{slots, Fits, Kept}
use Rattle.laws.specs.Lists.{map-mem, map-mem⁻¹}
use Rattle.laws.specs.Program.{slots-fits, fits-slots}
use Rattle.laws.specs.Best.{BestWithin}

-- "the extra jobs stand behind the gate's, no need joins the two groups": the precedence graph of the whole is the disjoint union of that of the n jobs of a
-- gate and that of the extra jobs, which are counted from n on; the needs may stand in any order
pub record DisjointUnion (n : ℕ) (gate extras whole : List Need) : Type 0 where
  pub gate-needs : (g k : ℕ) → g < n → k < n → Gives whole g k ↔ Gives gate g k
  pub extra-needs : (g k : ℕ) → Gives whole (n + g) (n + k) ↔ Gives extras g k
  pub apart : (g k : ℕ) → Gives whole g k → ((g < n) × (k < n)) ⊎ ((n ≤ g) × (n ≤ k))

-- the same, of needs between the n jobs of the gate and between the m extra ones
pub record UnionIn (n m : ℕ) (gate extras whole : List Need) : Type 0 where
  pub gate-in : NeedsIn n gate
  pub extras-in : NeedsIn m extras
  pub needs : DisjointUnion n gate extras whole

-- ---- the slots of a list and its two parts

largest-append : (t e : List ℕ) → largest (t ++ e) ≡ max (largest t) (largest e)
unfolding largest
largest-append [] e = omega arith
largest-append (x ∷ t) e = omega (arith, largest-append t e)

pub slots-append : (t e : List ℕ) → slots (t ++ e) ≡ max (slots t) (slots e)
unfolding slots
slots-append t e = omega (arith, largest-append t e)

pub slots-cut : (n : ℕ) (u : List ℕ) → slots u ≡ max (slots (take n u)) (slots (drop n u))
slots-cut n u = ap slots (sym (take-append-drop n u)) ∙ slots-append (take n u) (drop n u)

-- t is the best list of k jobs that keeps the needs within the limit L
abbrev pub BestKept : ℕ → List Need → ℕ → List ℕ → Type 0
BestKept k needs L t = BestWithin k L (λ u. Kept (Gives needs) (at u)) (some t)

-- n jobs and m behind them, and a limit
module _ (n m L : ℕ) (L-pos : 0 < L) where
  -- where both lists fit it, the two one behind the other do
  pub append-fits : (t e : List ℕ) → Fits n L t → Fits m L e → Fits (n + m) L (t ++ e)
  append-fits t e f g =
      slots-fits (n + m) L (t ++ e) (omega (arith, length-append t e, f.len, g.len))
      (omega (arith, slots-append t e, fits-slots n L t L-pos f, fits-slots m L e L-pos g))

  -- and where those do, so does each
  pub gate-fits : (u : List ℕ) → Fits (n + m) L u → Fits n L (take n u)
  gate-fits u f = slots-fits n L (take n u) (length-take-le n u (omega (arith, f.len))) (omega (arith, slots-cut n u, fits-slots (n + m) L u L-pos f))

  pub extras-fit : (u : List ℕ) → Fits (n + m) L u → Fits m L (drop n u)
  extras-fit u f = slots-fits m L (drop n u) (omega (arith, length-drop n u, f.len)) (omega (arith, slots-cut n u, fits-slots (n + m) L u L-pos f))

-- ---- the needs of both, one after the other

-- needs counted from n on
unfoldable pub behind : ℕ → List Need → List Need
behind n needs = map (λ d. (n + d.0, n + d.1)) needs

-- the gate's needs with those of the extras behind them are such a union
pub union-append : (n : ℕ) (gate extras : List Need) → NeedsIn n gate → DisjointUnion n gate extras (gate ++ behind n extras)
unfolding behind
union-append n gate extras gate-in = record {
  gate-needs = λ g k p q. (λ a. either (λ w. w) (λ w. absurd (omega (arith, (extra (g, k) w).0))) a, λ a. Memᴰ.append_left (behind n extras) a);
  extra-needs = λ g k. (
    λ a. either (λ w. absurd (omega (arith, (gate-in (n + g) (n + k) w).0))) (λ w. back g k (n + g, n + k) w refl refl) a,
    λ a. Memᴰ.append_right gate (map-mem _ extras (g, k) a),
  );
  apart = λ g k a. either (λ w. inl (gate-in g k w)) (λ w. inr (extra (g, k) w)) a;
}
  where
    either : {P : Type 0} {d : Need} → (Memᴰ d gate → P) → (Memᴰ d (behind n extras) → P) → Memᴰ d (gate ++ behind n extras) → P
    either f h a = ⊎_elim f h (Memᴰ.append_cases gate a)

    extra : (d : Need) → Memᴰ d (behind n extras) → (n ≤ d.0) × (n ≤ d.1)
    extra = map-mem⁻¹ (λ (d : Need). (n ≤ d.0) × (n ≤ d.1)) _ extras (λ d _. (omega arith, omega arith))

    back : (g k : ℕ) (d : Need) → Memᴰ d (behind n extras) → d.0 ≡ n + g → d.1 ≡ n + k → Gives extras g k
    back g k = map-mem⁻¹ (λ (d : Need). d.0 ≡ n + g → d.1 ≡ n + k → Gives extras g k) _ extras (λ d m p q.
        let a : d.0 ≡ g = omega arith in let b : d.1 ≡ k = omega arith in rw (← a, ← b) m)
