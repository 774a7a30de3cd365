-- Extra jobs behind those of a gate, which no need joins to them (document 02, request 12), over start lists: where the extras alone need no more slots than
-- the gate alone, every job of the gate keeps its start. Assumes nothing.
-- The definitions are in specs/Extras.antt; here are the theorems that depend on what a must-fail edit breaks.
use Rattle.std.specs.Prelude.{◌≡◌, refl, ◌⊎◌, ◌↔◌, ℕ, ◌+◌, ◌-◌, ◌≤◌, ◌<◌, length, take, drop}
use Rattle.std.proofs.Common.{sym, ap, ◌∙◌, inl, inr, ⊎_elim, arith, take-append-drop, get_or-append-add, get_or-take, get_or-drop}
use mathlib.Core.List.{List, ◌++◌}
use Rattle.std.proofs.Math.Decide.{dec_lt}
use Rattle.std.proofs.Math.ListN.{get_or-append}
use Rattle.rules.specs.Basics.{at}
use Rattle.rules.specs.Needs.{Need, Gives, NeedsIn, Circle}
use Rattle.rules.specs.Program.{slots, Fits, Kept}
use Rattle.rules.specs.Preference.{Preferred}
use Rattle.laws.specs.Preference.{Weak-antisym}
use Rattle.laws.specs.Best.{NoWorse}
use Rattle.laws.specs.Parts.{Part, part-kept, same_kept, InPart, parts_free, KeptPart, parts-kept}
use Rattle.laws.specs.Extras.{UnionIn, slots-append, slots-cut, BestKept, append-fits, gate-fits, extras-fit}

module _ {n m : ℕ} {gate extras whole : List Need} (U : UnionIn n m gate extras whole) where
  -- ---- the gate and the extras are parts of the whole

  -- a job is one of the gate's, or an extra one
  abbrev Group : ℕ → Type 0
  Group i = (i < n) ⊎ ((a : ℕ) × (i ≡ n + a))

  group : (i : ℕ) → Group i
  group i = go (dec_lt i n)
    where
      go : Dec (i < n) → Group i
      go (yes h) = inl h
      go (no h) = inr (i - n, omega arith)

  -- the needs of an extra job are the extras'
  extra-need : (g k : ℕ) → Gives whole (n + g) (n + k) → Gives extras g k
  extra-need g k a = (U.needs.extra-needs g k).0 a

  whole_in : NeedsIn (n + m) whole
  whole_in g k a = ⊎_elim (λ w. (omega (arith, w.0), omega (arith, w.1))) (λ w. extra (omega (arith, w.0)) (omega (arith, w.1))) (U.needs.apart g k a)
    where
      extra : n ≤ g → n ≤ k → (g < n + m) × (k < n + m)
      extra behind-g behind-k =
          let p : g ≡ n + (g - n) = omega arith in
          let q : k ≡ n + (k - n) = omega arith in
          let h = U.extras-in (g - n) (k - n) (extra-need (g - n) (k - n) (rw (← p, ← q) a)) in
          (omega (arith, h.0), omega (arith, h.1))

  -- job i of the gate is job i of the whole
  pub gate-part : Part n (n + m) gate whole (λ i. i)
  gate-part = record {
    part_in = U.gate-in;
    whole_in = whole_in;
    once = λ i k e. e;
    inside = λ i h. omega arith;
    needs = λ g k a. let h = U.gate-in g k a in (U.needs.gate-needs g k h.0 h.1).1 a;
    givers = λ g i h a. (g, (U.needs.gate-needs g i (⊎_elim (λ w. w.0) (λ w. absurd (omega (arith, w.1, h))) (U.needs.apart g i a)) h).0 a, refl);
    takers = λ i k h a. (k, (U.needs.gate-needs i k h (⊎_elim (λ w. w.1) (λ w. absurd (omega (arith, w.0, h))) (U.needs.apart i k a))).0 a, refl);
  }

  -- and job i of the extras is job n + i
  pub extras-part : Part m (n + m) extras whole (λ i. n + i)
  extras-part = record {
    part_in = U.extras-in;
    whole_in = whole_in;
    once = λ i k e. omega arith;
    inside = λ i h. omega arith;
    needs = λ g k a. (U.needs.extra-needs g k).1 a;
    givers = λ g i h a. let e : g ≡ n + (g - n) = ⊎_elim (λ w. absurd (omega (arith, w.1))) (λ w. omega (arith, w.0)) (U.needs.apart g (n + i) a) in
        (g - n, extra-need (g - n) i (rw (← e) a), e);
    takers = λ i k h a. let e : k ≡ n + (k - n) = ⊎_elim (λ w. absurd (omega (arith, w.0))) (λ w. omega (arith, w.1)) (U.needs.apart (n + i) k a) in
        (k - n, extra-need i (k - n) (rw (← e) a), e);
  }

  -- every job is in one of the two
  in-gate : (i : ℕ) → i < n → InPart (n + m) whole i
  in-gate i h = record { size = n; needs = gate; place = λ a. a; part = gate-part; index = i; index_in = h; job_is = refl }

  in-extras : (i a : ℕ) → i < n + m → i ≡ n + a → InPart (n + m) whole i
  in-extras i a h e = record { size = m; needs = extras; place = λ b. n + b; part = extras-part; index = a; index_in = omega arith; job_is = e }

  -- where neither has a circle there is none
  pub union-free : ¬ (Circle gate) → ¬ (Circle extras) → ¬ (Circle whole)
  unfolding in-gate in-extras
  union-free g e = parts_free (n + m) whole whole_in (λ i h. go i h (group i))
    where
      go : (i : ℕ) → i < n + m → Group i → (w : InPart (n + m) whole i) × ¬ (Circle w.needs)
      go i h (inl l) = (in-gate i l, g)
      go i h (inr (a, q)) = (in-extras i a h q, e)

  -- ---- start lists: one of the whole is one of the gate, and behind it one of the extras

  -- the starts of the gate keep its needs where those of the whole keep all
  pub gate-kept : (u : List ℕ) → Kept (Gives whole) (at u) → Kept (Gives gate) (at (take n u))
  gate-kept u k = part-kept gate-part (at u) (at (take n u)) (λ i h. get_or-take n u i 0 h) k

  -- and those of the extras theirs
  pub extras-kept : (u : List ℕ) → Kept (Gives whole) (at u) → Kept (Gives extras) (at (drop n u))
  extras-kept u k = part-kept extras-part (at u) (at (drop n u)) (λ i h. get_or-drop n u i 0) k

  module _ (t e : List ℕ) (len : length t ≡ n) where
    -- the starts in both, one behind the other
    at-gate : (i : ℕ) → i < n → at (t ++ e) i ≡ at t i
    at-gate i h = get_or-append t e 0 i (omega arith)

    at-extra : (a : ℕ) → at (t ++ e) (n + a) ≡ at e a
    at-extra a = ap (λ (x : ℕ). at (t ++ e) (x + a)) (sym len) ∙ get_or-append-add t e a 0

    -- where each keeps its needs, the two keep all
    pub append-kept : Kept (Gives gate) (at t) → Kept (Gives extras) (at e) → Kept (Gives whole) (at (t ++ e))
    unfolding in-gate in-extras
    append-kept k l = parts-kept (n + m) whole whole_in (at (t ++ e)) (λ i h. go i h (group i))
      where
        go : (i : ℕ) → i < n + m → Group i → KeptPart (n + m) whole (at (t ++ e)) i
        go i h (inl p) = (in-gate i p, same_kept n gate U.gate-in (at t) (at (t ++ e)) at-gate k)
        go i h (inr (a, q)) = (in-extras i a h q, same_kept m extras U.extras-in (at e) (λ b. at (t ++ e) (n + b)) (λ b _. at-extra b) l)

  -- of two lists with the same extras, the one whose gate is preferred is preferred
  append-preferred : (t r e : List ℕ) → length t ≡ n → length r ≡ n → Preferred n t r → Preferred (n + m) (t ++ e) (r ++ e)
  append-preferred t r e lt lr p = record {
    slot = p.slot;
    job = p.job;
    job-in = omega (arith, p.job-in);
    before = λ s i h _. same s i (group i) (λ l. p.before s i h l);
    lower = λ i h. same p.slot i (group i) (λ _. p.lower i h);
    has = at-gate t e lt p.job p.job-in ∙ p.has;
    lacks = λ q. p.lacks (sym (at-gate r e lr p.job p.job-in) ∙ q);
  }
    where
      same : (s i : ℕ) → Group i → (i < n → (at t i ≡ s) ↔ (at r i ≡ s)) → (at (t ++ e) i ≡ s) ↔ (at (r ++ e) i ≡ s)
      same s i (inl l) f = rw (at-gate t e lt i l, at-gate r e lr i l) (f l)
      same s i (inr (a, q)) f = rw (q, at-extra t e lt a, at-extra r e lr a) (λ z. z, λ z. z)

-- ---- the slots of a list and its two parts

module _ {n m : ℕ} {gate extras whole : List Need} (U : UnionIn n m gate extras whole) (L : ℕ) (L-pos : 0 < L) where
  -- "every gate job keeps the start it has without them"
  pub gate-keeps : (u t e : List ℕ) → BestKept (n + m) whole L u → BestKept n gate L t → BestKept m extras L e → slots e ≤ slots t → take n u ≡ t
  gate-keeps u t e bu bt be short = go (bt.2 (take n u) (gate-kept U u bu.0) gate-fit)
    where
      gate-fit : Fits n L (take n u)
      gate-fit = gate-fits n m L L-pos u bu.1

      -- u is no worse than the gate's list with other extras
      beats : (x : List ℕ) → Kept (Gives extras) (at x) → Fits m L x → NoWorse (n + m) u (t ++ x)
      beats x k f = bu.2 (t ++ x) (append-kept U t x bt.1.len bt.0 k) (append-fits n m L L-pos t x bt.1 f)

      -- with the best extras: so it has no more slots than the gate alone
      as_short : slots u ≤ slots t
      as_short = ⊎_elim (λ q. omega (arith, q, slots-append t e)) (λ q. omega (arith, q.0, slots-append t e)) (beats e be.0 be.1)

      -- with its own: were the gate's list preferred to the gate's starts in u, it would with the extras of u be preferred to u
      preferred : slots t ≡ slots (take n u) → Preferred n t (take n u) → ⊥
      preferred s p =
          ⊎_elim (λ q. omega (arith, q, s, slots-append t (drop n u), slots-cut n u))
          (λ q. pref.lacks (rw (← (Weak-antisym (n + m) u (t ++ drop n u) q.1 (inr pref))) at pref.has))
          (beats (drop n u) (extras-kept U u bu.0) (extras-fit n m L L-pos u bu.1))
        where
          pref : Preferred (n + m) (t ++ drop n u) u
          pref = rw (take-append-drop n u) at (append-preferred U t (take n u) (drop n u) bt.1.len gate-fit.len p)

      go : NoWorse n t (take n u) → take n u ≡ t
      go (inl q) = absurd (omega (arith, q, as_short, slots-cut n u))
      go (inr q) = ⊎_elim sym (λ p. absurd (preferred q.0 p)) q.1
