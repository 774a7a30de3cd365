-- What program P asks of the starts alone: the three sentences of document 01 and the makespan. Assumes nothing.
use Rattle.std.specs.Prelude.{◌≡◌, ◌≢◌, ◌⊎◌, ◌↔◌, Bool, length, eqb}
use Rattle.std.proofs.Math.Path.{refl, ap}
use Rattle.std.proofs.Common.{sym, ◌∙◌, inl, inr}
use Rattle.std.proofs.Math.Bool.{true, false}
use mathlib.Core.List.Memᴰ
use mathlib.Core.List.{List, [], ◌∷◌, map, Memᴰ}
use Prim.Native.Nat.{ℕ, zero, suc, ◌+◌, ◌≤◌, ◌<◌}
use native.Mathlib.Omega.{arith}
use Rattle.std.proofs.Math.Decide.{ℕ_discrete}
use Rattle.std.proofs.lemmas.List.{length-map}
use Rattle.std.proofs.Math.Dec.{T}
use Rattle.rules.specs.Basics.{choose, at, Distinct}
use Rattle.rules.specs.Needs.{Need, Gives, givesb, NeedsIn}
use Rattle.rules.specs.Program.{given_by, taken_by, tally, total, nth, ProgramP, SatisfiesP, delay, slots, Fits, Kept, all₂, keptb}
use Rattle.laws.specs.Tests.{T-eqb, by-choice, tests}
use Rattle.laws.specs.Lists.{nth-mem}
use Rattle.laws.specs.Counting.{at-largest, largest-lt}

-- the test for a need says just that
pub gives-is : (needs : List Need) (g k : ℕ) → T (givesb needs g k) ↔ Gives needs g k
unfolding givesb
gives-is needs g k = (λ h. let r = simp tests at h in found r.0 r.1 r.2, λ m. simp tests ((g, k), m, (refl, refl)))
  where
    found : (d : Need) → Memᴰ d needs → (d.0 ≡ g) × (d.1 ≡ k) → Gives needs g k
    found d m e = rw (← e.0, ← e.1) m

-- the test for the three sentences says just them
pub kept-is : (needs : List Need) (t : List ℕ) → T (keptb needs t) ↔ Kept (Gives needs) (at t)
unfolding keptb all₂
kept-is needs t = (to, from)
  where
    to : T (keptb needs t) → Kept (Gives needs) (at t)
    to h =
        let r = simp tests at h in
        record {
          later = λ g k a. r.0 (g, k) a;
          give-one = λ g j k a b. r.1.0 (g, j) a (g, k) b refl;
          take-one = λ i j k a b. r.1.1 (i, k) a (j, k) b refl;
        }

    from : Kept (Gives needs) (at t) → T (keptb needs t)
    from k =
        simp tests (
          λ d a. k.later d.0 d.1 a,
          (λ d a e b c. k.give-one d.0 d.1 e.1 a (rw c b), λ d a e b c. k.take-one d.0 e.0 d.1 a (rw c b)),
        )

-- ---- slots

-- every start list has a slot
pub slots-pos : (t : List ℕ) → 1 ≤ slots t
unfolding slots
slots-pos t = omega arith

-- a start list fits every limit from its slots up
pub slots-fits : (n C : ℕ) (t : List ℕ) → length t ≡ n → slots t ≤ C → Fits n C t
unfolding slots
slots-fits n C t l h = record { len = l; below = λ i p. omega (arith, at-largest t i (omega arith)) }

-- and, of those above 0, no other
pub fits-slots : (n C : ℕ) (t : List ℕ) → 0 < C → Fits n C t → slots t ≤ C
unfolding slots
fits-slots n C t p f = largest-lt t C p (λ i h. f.below i (omega (arith, f.len)))

-- ---- from P to the starts: two needs of one job with delay 0 are one too many

mem_index : (ds : List Need) (d : Need) → Memᴰ d ds → (e : ℕ) × (e < length ds) × (nth ds e ≡ d)
mem_index [] d m = absurd (Memᴰ.not-nil m)
mem_index (c ∷ ds) d m = go (Memᴰ.cases_cons m) (mem_index ds d)
  where
    go : (d ≡ c) ⊎ Memᴰ d ds → (Memᴰ d ds → (e : ℕ) × (e < length ds) × (nth ds e ≡ d)) → (e : ℕ) × (e < suc (length ds)) × (nth (c ∷ ds) e ≡ d)
    go (inl q) r = (0, omega arith, sym q)
    go (inr w) r = let q = r w in (suc q.0, omega (arith, q.1), q.2)

-- one need more: its delay v is at most 1, and where it passes and has delay 0 the gap grows
gap_same : (b : Bool) (v x y k : ℕ) → v ≤ 1 → x + k ≤ y → choose b (v + x) x + k ≤ choose b (suc y) y
unfolding choose
gap_same true v x y k l h = omega arith
gap_same false v x y k l h = h

gap_more : (b : Bool) (v x y k : ℕ) → T b → v ≡ 0 → x + k ≤ y → choose b (v + x) x + suc k ≤ choose b (suc y) y
unfolding choose
gap_more true v x y k t z h = omega arith
gap_more false v x y k t z h = absurd t

-- x gives each of ds a delay of 0 or 1
abbrev Delays : List Need → List ℕ → Type 0
Delays ds x = (length x ≡ length ds) × ((e : ℕ) → e < length ds → at x e ≤ 1)

rest : (d : Need) (ds : List Need) (v : ℕ) (x : List ℕ) → Delays (d ∷ ds) (v ∷ x) → Delays ds x
rest d ds v x h = (omega (arith, h.0), λ e l. h.1 (suc e) (omega arith))

-- the needs that pass p are more than their delays in all, by the number of those without delay
module _ (p : Need → Bool) where
  gap-zero : (ds : List Need) (x : List ℕ) → Delays ds x → total p ds x + 0 ≤ tally p ds
  unfolding total tally
  gap-zero [] x h = omega arith
  gap-zero (d ∷ ds) [] h = omega arith
  gap-zero (d ∷ ds) (v ∷ x) h = gap_same (p d) v _ _ 0 (h.1 0 (omega arith)) (gap-zero ds x (rest d ds v x h))

  gap-one : (ds : List Need) (x : List ℕ) → Delays ds x → (e : ℕ) → e < length ds → T (p (nth ds e)) → at x e ≡ 0 → total p ds x + 1 ≤ tally p ds
  unfolding total tally
  gap-one [] x h e l a y = absurd (omega arith)
  gap-one (d ∷ ds) [] h e l a y = absurd (omega (arith, h.0))
  gap-one (d ∷ ds) (v ∷ x) h zero l a y = gap_more (p d) v _ _ 0 a y (gap-zero ds x (rest d ds v x h))
  gap-one (d ∷ ds) (v ∷ x) h (suc e) l a y = gap_same (p d) v _ _ 1 (h.1 0 (omega arith)) (gap-one ds x (rest d ds v x h) e (omega arith) a y)

  gap-two : (ds : List Need) (x : List ℕ) → Delays ds x → (e f : ℕ) → e < length ds → f < length ds → e ≢ f
      → T (p (nth ds e)) → T (p (nth ds f)) → at x e ≡ 0 → at x f ≡ 0 → total p ds x + 2 ≤ tally p ds
  unfolding total tally
  gap-two [] x h e f l m ne a b y z = absurd (omega arith)
  gap-two (d ∷ ds) [] h e f l m ne a b y z = absurd (omega (arith, h.0))
  gap-two (d ∷ ds) (v ∷ x) h zero zero l m ne a b y z = absurd (ne refl)
  gap-two (d ∷ ds) (v ∷ x) h zero (suc f) l m ne a b y z = gap_more (p d) v _ _ 1 a y (gap-one ds x (rest d ds v x h) f (omega arith) b z)
  gap-two (d ∷ ds) (v ∷ x) h (suc e) zero l m ne a b y z = gap_more (p d) v _ _ 1 b z (gap-one ds x (rest d ds v x h) e (omega arith) a y)
  gap-two (d ∷ ds) (v ∷ x) h (suc e) (suc f) l m ne a b y z =
      gap_same (p d) v _ _ 2 (h.1 0 (omega arith)) (gap-two ds x (rest d ds v x h) e f (omega arith) (omega arith) (λ q. ne (ap suc q)) a b y z)

module _ (n : ℕ) (needs : List Need) (C : ℕ) (t x : List ℕ) (P : ProgramP n needs C t x) where
  -- the number e of need d, and inequality (1) there
  record Numbered (d : Need) : Type 0 where
    e : ℕ
    in-needs : e < length needs
    is : nth needs e ≡ d
    room : at t d.0 + 1 + at x e ≤ at t d.1

  number : (d : Need) → Memᴰ d needs → Numbered d
  number d a = let w = mem_index needs d a in record { e = w.0; in-needs = w.1; is = w.2; room = rw w.2 at (P.line1 w.0 w.1) }

  -- of the needs that pass p one at most is without delay, if (3) or (4) holds of them
  one-tight : (p : Need → Bool) → tally p needs ≤ 1 + total p needs x → (d c : Need) → Memᴰ d needs → Memᴰ c needs → T (p d) → T (p c)
      → at t d.1 ≡ at t d.0 + 1 → at t c.1 ≡ at t c.0 + 1 → d ≡ c
  one-tight p h d c a b k l y z = go (number d a) (number c b)
    where
      go : Numbered d → Numbered c → d ≡ c
      go u v = step (ℕ_discrete u.e v.e)
        where
          step : Dec (u.e ≡ v.e) → d ≡ c
          step (yes q) = sym u.is ∙ ap (nth needs) q ∙ v.is
          step (no q) =
              absurd (omega (
                arith,
                h,
                gap-two p needs x (P.delays, P.zero_one) u.e v.e u.in-needs v.in-needs q
                    (rw u.is k) (rw v.is l) (omega (arith, u.room)) (omega (arith, v.room)),
              ))

  program-kept : NeedsIn n needs → Kept (Gives needs) (at t) × Fits n C t
  unfolding given_by taken_by
  program-kept needs-in = (
    record {
      later = λ g k a. omega (arith, (number (g, k) a).room);
      give-one = λ g j k a b p q. ap (λ (d : Need). d.1)
          (one-tight (given_by g) (P.line3 g (needs-in g j a).0) (g, j) (g, k) a b (simp tests refl) (simp tests refl) p q);
      take-one = λ i j k a b p q. ap (λ (d : Need). d.0)
          (one-tight (taken_by k) (P.line4 k (needs-in i k a).1) (i, k) (j, k) a b (simp tests refl) (simp tests refl) (sym p) (sym q));
    },
    record { len = P.starts; below = λ i h. omega (arith, P.line2 i h) },
  )

-- ---- from the starts to P: the delays of document 01

-- what makes x a delay of need d
abbrev Delay : List ℕ → Need → ℕ → Type 0
Delay t d x = (x ≤ 1) × (at t d.0 + 1 ≤ at t d.1 → at t d.0 + 1 + x ≤ at t d.1) × (x ≡ 0 → at t d.0 + 1 ≡ at t d.1)

delay-is : (t : List ℕ) (d : Need) → Delay t d (delay t d)
unfolding delay
delay-is t d =
    by-choice (Delay t d) (eqb (at t d.0 + 1) (at t d.1))
    (λ h. let e = simp tests at h in (omega arith, λ l. omega arith, λ z. e))
    (λ h. let e = simp tests at h in (omega arith, λ l. omega arith, λ z. absurd (omega arith)))

at_map : (f : Need → ℕ) (ds : List Need) (e : ℕ) → e < length ds → at (map f ds) e ≡ f (nth ds e)
at_map f [] e h = absurd (omega arith)
at_map f (d ∷ ds) zero h = refl
at_map f (d ∷ ds) (suc e) h = at_map f ds e (omega arith)

module _ (p : Need → Bool) (f : Need → ℕ) where
  none_free : (ds : List Need) → ((d : Need) → Memᴰ d ds → T (p d) → 1 ≤ f d) → tally p ds ≤ total p ds (map f ds)
  unfolding tally total choose
  none_free [] h = omega arith
  none_free (d ∷ ds) h = go (p d) (h d (Memᴰ.head refl)) (none_free ds (λ e m. h e (Memᴰ.tail m)))
    where
      go : (b : Bool) → (T b → 1 ≤ f d) → tally p ds ≤ total p ds (map f ds)
          → choose b (suc (tally p ds)) (tally p ds) ≤ choose b (f d + total p ds (map f ds)) (total p ds (map f ds))
      go true l r = omega (arith, l tt)
      go false l r = r

  -- where of the needs that pass p one at most has delay 0, (3) or (4) holds of them
  one_free : (ds : List Need) → Distinct ds → ((d e : Need) → Memᴰ d ds → Memᴰ e ds → T (p d) → T (p e) → f d ≡ 0 → f e ≡ 0 → d ≡ e)
      → tally p ds ≤ 1 + total p ds (map f ds)
  unfolding tally total choose
  one_free [] u h = omega arith
  one_free (d ∷ ds) u h = go (p d) refl (ℕ_discrete (f d) 0) (one_free ds u.1 (λ c e m w. h c e (Memᴰ.tail m) (Memᴰ.tail w)))
    where
      go : (b : Bool) → p d ≡ b → Dec (f d ≡ 0) → tally p ds ≤ 1 + total p ds (map f ds)
          → choose b (suc (tally p ds)) (tally p ds) ≤ 1 + choose b (f d + total p ds (map f ds)) (total p ds (map f ds))
      go true q (yes z) r = omega (arith, none_free ds (λ e m t. other e m t (ℕ_discrete (f e) 0)))
        where
          other : (e : Need) → Memᴰ e ds → T (p e) → Dec (f e ≡ 0) → 1 ≤ f e
          other e m t (yes y) = absurd (u.0 (rw (h d e (Memᴰ.head refl) (Memᴰ.tail m) (rw q tt) t z y) m))
          other e m t (no y) = omega arith
      go true q (no z) r = omega arith
      go false q c r = r

-- the delays of document 01 make inequalities (1) to (4) true
pub delays-satisfy : (n : ℕ) (needs : List Need) (C : ℕ) (t : List ℕ) → Distinct needs → Kept (Gives needs) (at t) × Fits n C t
    → ProgramP n needs C t (map (delay t) needs)
unfolding given_by taken_by
delays-satisfy n needs C t u (kept, fits) = record {
  starts = fits.len;
  delays = length-map needs (delay t);
  zero_one = λ e h. omega (arith, at_map (delay t) needs e h, (delay-is t (nth needs e)).0);
  line1 = λ e h. rw (at_map (delay t) needs e h) ((delay-is t (nth needs e)).1 (kept.later (nth needs e).0 (nth needs e).1 (nth-mem needs e (0, 0) h)));
  line2 = λ i h. omega (arith, fits.below i h);
  line3 = λ i h. one_free (given_by i) (delay t) needs u
      (λ d e a b p q y z. given d e a b ((T-eqb d.0 i).0 p ∙ sym ((T-eqb e.0 i).0 q)) ((delay-is t d).2 y) ((delay-is t e).2 z));
  line4 = λ i h. one_free (taken_by i) (delay t) needs u
      (λ d e a b p q y z. taken d e a b ((T-eqb d.1 i).0 p ∙ sym ((T-eqb e.1 i).0 q)) ((delay-is t d).2 y) ((delay-is t e).2 z));
}
  where
    given : (d e : Need) → Memᴰ d needs → Memᴰ e needs → d.0 ≡ e.0 → at t d.0 + 1 ≡ at t d.1 → at t e.0 + 1 ≡ at t e.1 → d ≡ e
    given (g, j) (h, k) a b e y z = λ i. (e i, kept.give-one g j k a (rw e b) (sym y) (rw e (sym z)) i)

    taken : (d e : Need) → Memᴰ d needs → Memᴰ e needs → d.1 ≡ e.1 → at t d.0 + 1 ≡ at t d.1 → at t e.0 + 1 ≡ at t e.1 → d ≡ e
    taken (i, k) (j, l) a b e y z = λ c. (kept.take-one i j k a (rw e b) y (rw e z) c, e c)

-- P asks of the starts just the three sentences and the makespan
pub program-is : (n : ℕ) (needs : List Need) (C : ℕ) (t : List ℕ) → Distinct needs → NeedsIn n needs → SatisfiesP n needs C t
    ↔ (Kept (Gives needs) (at t) × Fits n C t)
program-is n needs C t u needs-in = (λ s. program-kept n needs C t s.0 s.1 needs-in, λ h. (map (delay t) needs, delays-satisfy n needs C t u h))
