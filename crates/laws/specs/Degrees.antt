-- |Γ+(i)| and |Γ-(i)| of program P count jobs; where no need stands twice they count needs. Assumes nothing.
use Rattle.std.specs.Prelude.{◌≡◌, Bool, true, false, ℕ, suc, ◌<◌, length, T}
use Rattle.std.proofs.Math.Path.{refl}
use Rattle.std.proofs.Common.{ap}
use mathlib.Core.List.Memᴰ
use mathlib.Core.List.{List, [], ◌∷◌, map, Memᴰ}
use native.Mathlib.Omega.{arith}
use Rattle.std.proofs.Math.ListN.{length-map}
use Rattle.rules.specs.Basics.{choose, filter, range, count, Distinct}
use Rattle.rules.specs.Needs.{Need, givesb, NeedsIn}
use Rattle.rules.specs.Program.{given_by, taken_by, tally}
use Rattle.laws.specs.Tests.{T-eqb, tests}
use Rattle.laws.specs.Lists.{map-mem, filter-mem, filter-mem⁻¹, filter-rising, range-rising}
use Rattle.laws.specs.Counting.{rising-distinct, pigeonhole, filter-distinct, passing, passing-in}
use Rattle.laws.specs.Program.{gives-is}

tally-filter : (p : Need → Bool) (ds : List Need) → tally p ds ≡ length (filter p ds)
unfolding tally filter choose
tally-filter p [] = refl
tally-filter p (d ∷ ds) = go (p d) (tally-filter p ds)
  where
    go : (b : Bool) → tally p ds ≡ length (filter p ds) → choose b (suc (tally p ds)) (tally p ds) ≡ length (choose b (d ∷ filter p ds) (filter p ds))
    go true r = ap suc r
    go false r = r

-- the needs that pass p are the needs `with j`, one for each j below n that passes q
module _ (n : ℕ) (needs : List Need) (u : Distinct needs) (p : Need → Bool) (q : ℕ → Bool) (with : ℕ → Need) (end : Need → ℕ)
    (to : (d : Need) → Memᴰ d needs → T (p d) → (end d < n) × T (q (end d)) × (d ≡ with (end d)))
    (from : (j : ℕ) → T (q j) → Memᴰ (with j) needs × T (p (with j)) × (j ≡ end (with j))) where
  tally-count : tally p needs ≡ count q n
  unfolding count
  tally-count = omega (
    arith,
    tally-filter p needs,
    length-map (passing q n) with,
    length-map (filter p needs) end,
    pigeonhole (filter p needs) (map with (passing q n)) (filter-distinct p needs u) (λ d m.
        let a = filter-mem⁻¹ p needs d m in
        let w = to d a.0 a.1 in
        Memᴰ.cast w.2 (map-mem with (passing q n) (end d) ((passing-in q n (end d)).1 (w.0, w.1)))),
    pigeonhole (passing q n) (map end (filter p needs)) (rising-distinct (passing q n) (filter-rising q (range n 0) (range-rising n 0))) (λ j m.
        let w = from j ((passing-in q n j).0 m).1 in
        Memᴰ.cast w.2 (map-mem end (filter p needs) (with j) (filter-mem p needs (with j) w.0 w.1))),
  )

module _ (n : ℕ) (needs : List Need) (u : Distinct needs) (needs-in : NeedsIn n needs) (i : ℕ) where
  -- |Γ+(i)|, counted in needs and in jobs
  pub successors : tally (given_by i) needs ≡ count (λ j. givesb needs i j) n
  unfolding given_by
  successors = tally-count n needs u (given_by i) (λ j. givesb needs i j) (λ j. (i, j)) (λ d. d.1)
      (λ d m t. let e = (T-eqb d.0 i).0 t in ((needs-in d.0 d.1 m).1, (gives-is needs i d.1).1 (rw (← e) m), λ k. (e k, d.1)))
      (λ j t. ((gives-is needs i j).0 t, simp tests refl, refl))

  -- |Γ-(i)|, counted in needs and in jobs
  pub predecessors : tally (taken_by i) needs ≡ count (λ j. givesb needs j i) n
  unfolding taken_by
  predecessors = tally-count n needs u (taken_by i) (λ j. givesb needs j i) (λ j. (j, i)) (λ d. d.0)
      (λ d m t. let e = (T-eqb d.1 i).0 t in ((needs-in d.0 d.1 m).0, (gives-is needs d.0 i).1 (rw (← e) m), λ k. (d.0, e k)))
      (λ j t. ((gives-is needs j i).0 t, simp tests refl, refl))
