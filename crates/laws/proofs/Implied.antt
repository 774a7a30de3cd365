-- Which needs follow from others: the test says it, and the list has each of them once, in rising order (document 02, request 5). Assumes nothing.
-- The definitions are in specs/Implied.antt; here are the theorems that depend on what a must-fail edit breaks.
use Rattle.std.specs.Prelude.{◌≡◌, refl, length, leb}
use Rattle.std.proofs.Math.Logic.{inl, inr, ⊎_elim}
use mathlib.Core.List.Memᴰ
use mathlib.Core.List.{List, [], ◌∷◌, ◌++◌, map, Memᴰ}
use Prim.Native.Nat.{ℕ, zero, suc, ◌≤◌}
use native.Mathlib.Omega.{arith}
use Rattle.rules.specs.Sizes.{max_file, pairs_size}
use Rattle.rules.specs.Basics.{range, Distinct}
use Rattle.rules.specs.Numbers.{Bytes}
use Rattle.rules.specs.Fields.{got}
use Rattle.rules.specs.Needs.{Need, NeedsIn, Circle}
use Rattle.rules.specs.JobFile.{JobFile, read_file}
use Rattle.rules.specs.Implied.{implied_takers, implied_from, implied_needs, pair_numbers}
use Rattle.laws.specs.Tests.{T-leb}
use Rattle.laws.specs.Lists.{Rising, map-mem⁻¹, filter-rising, range-rising}
use Rattle.laws.specs.Counting.{pigeonhole}
use Rattle.laws.specs.Fields.{ask-got}
use Rattle.laws.specs.JobFile.{readable, needs-few, needs-in as file-needs-in}
use Rattle.laws.specs.Implied.{list-is, Before, InOrder, pairs-length}

-- ---- the order

-- lists in order, one behind the other
order-append : (ds es : List Need) → InOrder ds → InOrder es → ((d e : Need) → Memᴰ d ds → Memᴰ e es → Before d e) → InOrder (ds ++ es)
order-append [] es a b h = b
order-append (d ∷ ds) es a b h = (
  λ e m. ⊎_elim (a.0 e) (h d e (Memᴰ.head refl)) (Memᴰ.append_cases ds m),
  order-append ds es a.1 b (λ c e m. h c e (Memᴰ.tail m)),
)

-- the needs of one giver, its takers rising
row-order : (g : ℕ) (ks : List ℕ) → Rising ks → InOrder (map (λ k. (g, k)) ks)
row-order g [] r = tt
row-order g (k ∷ ks) r = (map-mem⁻¹ (Before (g, k)) (λ j. (g, j)) ks (λ j w. inr (refl, r.0 j w)), row-order g ks r.1)

-- so none stands twice
order-distinct : (ds : List Need) → InOrder ds → Distinct ds
order-distinct [] o = tt
order-distinct (d ∷ ds) o = (λ m. ⊎_elim (λ h. omega (arith, h)) (λ h. omega (arith, h.1)) (o.0 d m), order-distinct ds o.1)

module _ (n : ℕ) (needs : List Need) where
  -- the listed needs of giver g
  abbrev row : ℕ → List Need
  row g = map (λ k. (g, k)) (implied_takers n needs g)

  -- their giver is g; those behind them have later givers
  row-giver : (g : ℕ) (d : Need) → Memᴰ d (row g) → d.0 ≡ g
  row-giver g = map-mem⁻¹ (λ (d : Need). d.0 ≡ g) (λ k. (g, k)) (implied_takers n needs g) (λ k w. refl)

  from-least : (c g : ℕ) (d : Need) → Memᴰ d (implied_from n needs c g) → g ≤ d.0
  unfolding implied_from
  from-least zero g d m = absurd (Memᴰ.not-nil m)
  from-least (suc c) g d m =
      ⊎_elim (λ w. omega (arith, row-giver g d w)) (λ w. omega (arith, from-least c (suc g) d w)) (Memᴰ.append_cases (row g) m)

  -- so all are in order
  from-order : (c g : ℕ) → InOrder (implied_from n needs c g)
  unfolding implied_from implied_takers
  from-order zero g = tt
  from-order (suc c) g =
      order-append (row g) (implied_from n needs c (suc g)) (row-order g (implied_takers n needs g) (filter-rising _ (range n 0) (range-rising n 0)))
      (from-order c (suc g)) (λ d e m w. inl (omega (arith, row-giver g d m, from-least c (suc g) e w)))

  -- the list is in order
  pub list-order : InOrder (implied_needs n needs)
  unfolding implied_needs
  list-order = from-order n 0

  -- there are no more than needs
  list-few : NeedsIn n needs → ¬ (Circle needs) → length (implied_needs n needs) ≤ length needs
  list-few needs-in free =
      pigeonhole (implied_needs n needs) needs (order-distinct (implied_needs n needs) list-order)
      (λ d m. ((list-is needs-in free d.0 d.1).0 m).need)

-- ---- the numbers of the pairs

-- a readable file has room for no more needs than a full list has for pairs
pub list-fits : (file : List ℕ) → Bytes file → (f : JobFile) → read_file file ≡ got f → ¬ (Circle f.needs)
    → length (pair_numbers (implied_needs (length f.jobs) f.needs)) ≤ pairs_size
list-fits file bytes f read free =
    let n = length f.jobs in
    let short : length file ≤ max_file = unfold read_file in (T-leb (length file) max_file).0 (ask-got (leb (length file) max_file) 2 _ f read).0 in
    omega (
      arith,
      short,
      needs-few file f read,
      list-few n f.needs (file-needs-in f (readable file bytes f read)) free,
      pairs-length (implied_needs n f.needs),
    )
