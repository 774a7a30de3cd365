-- The plan that the search finds, as the placing on boards takes it: its sets have the places of the jobs that start in each slot. Assumes nothing.
use Rattle.std.specs.Prelude.{◌≡◌, ◌⊎◌, ◌↔◌, true, ℕ, zero, suc, ◌+◌, ◌≤◌, ◌<◌, length, replicate}
use Rattle.std.proofs.Common.{sym, ap, ◌∙◌, inl, inr, arith}
use mathlib.Core.List.{List, Memᴰ}
use Rattle.std.proofs.Math.Decide.{ℕ_discrete}
use Rattle.std.proofs.lemmas.List.{length-replicate, get_or-replicate}
use Rattle.rules.specs.Sizes.{max_limit, max_jobs}
use Rattle.rules.specs.Basics.{at}
use Rattle.rules.specs.Needs.{Gives, NeedsIn}
use Rattle.rules.specs.Program.{slots, Kept, Fits}
use Rattle.laws.specs.Lists.{dec_mem}
use Rattle.jobset.specs.Sets.{member, set_at}
use Rattle.places.specs.Seats.{jobs_of, in-jobs}
use Rattle.places.specs.Windows.{Windows, held, in_held, Seats}
use Rattle.places.specs.Tables.{Shows}
use Rattle.places.specs.Model.{placed}
use Rattle.layout.specs.Layout.{tables_in}
use Rattle.shortest.specs.Starts.{plan_of, plan-proper}
use Rattle.shortest.specs.Path.{placed-keeps, start_is}
use Rattle.slotboards.specs.Placing.{Placeable}

-- one of the first k numbers has P, or none has
search-below : (P : ℕ → Type 0) → ((j : ℕ) → Dec (P j)) → (k : ℕ) → ((j : ℕ) × (j < k) × P j) ⊎ ((j : ℕ) → j < k → P j → ⊥)
search-below P dec zero = inr (λ j l. absurd (omega arith))
search-below P dec (suc k) = go (dec k) (search-below P dec k)
  where
    go : Dec (P k) → ((j : ℕ) × (j < k) × P j) ⊎ ((j : ℕ) → j < k → P j → ⊥) → ((j : ℕ) × (j < suc k) × P j) ⊎ ((j : ℕ) → j < suc k → P j → ⊥)
    go (yes p) r = inl (k, omega arith, p)
    go (no n) (inl w) = inl (w.0, omega (arith, w.1), w.2)
    go (no n) (inr f) = inr (λ j l p. last j l p (ℕ_discrete j k))
      where
        last : (j : ℕ) → j < suc k → P j → Dec (j ≡ k) → ⊥
        last j l p (yes e) = n (rw e at p)
        last j l p (no e) = f j (omega arith) p

-- the plan of C slots with at most `cap` jobs a slot, by tables in an array; its sets stand in the path
module _ (W : Windows) (Z : Seats W) (C cap limit : ℕ) (words path : List ℕ) (shows : Shows W Z C (tables_in words))
    (full : length (plan_of (tables_in words) cap C).sets ≡ C) (same : (s : ℕ) → s < C → set_at path s ≡ set_at (plan_of (tables_in words) cap C).sets s) where
  abbrev π : ℕ → ℕ
  π = Z.place

  abbrev sets : List ℕ
  sets = (plan_of (tables_in words) cap C).sets

  -- its start list
  abbrev t : List ℕ
  t = placed W π 0 sets (replicate W.n limit)

  -- a place of slot s in the path: the job that has it
  at_set : (s p : ℕ) → s < C → member (set_at path s) p ≡ true → (i : ℕ) × Memᴰ i (held W s) × (π i ≡ p) × ((tables_in words).who s p ≡ i) × (at t i ≡ s)
  at_set s p l m =
      let z : 0 + s ≡ s = omega arith in
      let e = rw (same s l) at m in
      let w = rw z at ((plan-proper W Z C (tables_in words) shows cap).of_places s (omega (arith, full)) p e) in
      let i = w.0 in
      let q = ap (member (set_at sets s)) w.2 ∙ e in (
        i,
        w.1,
        w.2,
        ap ((tables_in words).who s) (sym w.2) ∙ shows.who-is s i l w.1,
        start_is W Z C (tables_in words) shows cap i s (replicate W.n limit) (omega (arith, (in_held W s i).0 w.1, length-replicate {A = ℕ} W.n limit))
            w.1 (omega (arith, full)) q,
      )

  -- a job starts where its place is in the set
  of-job : C ≤ limit → Fits W.n C t → (i : ℕ) → i < W.n → (p : ℕ) × (member (set_at path (at t i)) p ≡ true) × ((tables_in words).who (at t i) p ≡ i)
  of-job in-limit fits i l = go (search-below (λ j. Memᴰ i (jobs_of π (held W (0 + j)) (set_at sets j))) (λ j. dec_mem i _) C)
    where
      go : ((j : ℕ) × (j < C) × Memᴰ i (jobs_of π (held W (0 + j)) (set_at sets j)))
          ⊎ ((j : ℕ) → j < C → Memᴰ i (jobs_of π (held W (0 + j)) (set_at sets j)) → ⊥)
          → (p : ℕ) × (member (set_at path (at t i)) p ≡ true) × ((tables_in words).who (at t i) p ≡ i)
      go (inl (j, h, m)) =
          let z : 0 + j ≡ j = omega arith in
          let w = (in-jobs π (held W j) (set_at sets j) i).0 (rw z at m) in
          let e = start_is W Z C (tables_in words) shows cap i j (replicate W.n limit) (omega (arith, length-replicate {A = ℕ} W.n limit)) w.0
          (omega (arith, full)) w.1 in
          rw e (π i, ap (λ S. member S (π i)) (same j h) ∙ w.1, shows.who-is j i h w.0)
      go (inr f) = absurd (omega (
        arith,
        fits.below i l,
        placed-keeps W π i sets 0 (replicate W.n limit) (λ j h m. f j (omega (arith, full)) m) ∙ get_or-replicate W.n i limit 0 l,
      ))

  -- so the placing on boards can take it
  pub placeable : W.n ≤ max_jobs → C ≤ max_limit → C ≤ limit → NeedsIn W.n W.needs
      → slots (placed W Z.place 0 (plan_of (tables_in words) cap C).sets (replicate W.n limit)) ≡ C
      → Kept (Gives W.needs) (at (placed W Z.place 0 (plan_of (tables_in words) cap C).sets (replicate W.n limit)))
      → Fits W.n C (placed W Z.place 0 (plan_of (tables_in words) cap C).sets (replicate W.n limit))
      → Placeable W.n W.needs (placed W Z.place 0 (plan_of (tables_in words) cap C).sets (replicate W.n limit)) words path C
  placeable few short in-limit needs-in slots-are kept fits = record {
    few = few;
    slots-few = short;
    slots-are = slots-are;
    len = fits.len;
    needs-in = needs-in;
    kept = kept;
    at_place = λ s p l m. let w = at_set s p l m in
        (omega (arith, w.2, Z.low s w.0 w.1), omega (arith, w.3, (in_held W s w.0).0 w.1), rw w.3 w.4);
    of-job = of-job in-limit fits;
    apart = λ s p q l m k e. let a = at_set s p l m in let b = at_set s q l k in sym a.2 ∙ ap π (sym a.3 ∙ e ∙ b.3) ∙ b.2;
    givers = givers;
  }
    where
      moved : (s i g p q : ℕ) {k l : ℕ} → π i ≡ p → π g ≡ q → k ≡ i → l ≡ g → (member ((tables_in words).prev (suc s) (π i)) (π g) ≡ true) ↔ Gives W.needs g i
          → (member ((tables_in words).prev (suc s) p) q ≡ true) ↔ Gives W.needs l k
      moved s i g p q a b c d r = rw (← a, ← b, c, d) r

      givers : (s p q : ℕ) → suc s < C → member (set_at path (suc s)) p ≡ true → member (set_at path s) q ≡ true
          → (member ((tables_in words).prev (suc s) p) q ≡ true) ↔ Gives W.needs ((tables_in words).who s q) ((tables_in words).who (suc s) p)
      givers s p q l m k =
          let a = at_set (suc s) p l m in
          let b = at_set s q (omega arith) k in
          let on = shows.prev-is (suc s) a.0 l a.1 in
          moved s a.0 b.0 p q a.2 b.2 a.3 b.3 (on.to b.0 b.1, on.from b.0 b.1)
