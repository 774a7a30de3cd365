-- The tests of the search over a list of needs, and what each of them says. Assumes nothing.
-- More of what holds: proofs/Tests.antt.
use Rattle.std.specs.Prelude.{◌≡◌, refl, ◌↔◌, Bool, false, ◌&&◌, ℕ, ◌+◌, T, leb, ltb, eqb}
use mathlib.Core.List.{List, Memᴰ}
use Rattle.rules.specs.Basics.{at, imp, all, any, has}
use Rattle.rules.specs.Needs.{Need, Gives, givesb}
use Rattle.rules.specs.Program.{all₂}
use Rattle.laws.specs.Tests.{tests, by-test}
use Rattle.laws.specs.Program.{gives-is}
use Rattle.dominance.specs.Exchange.{Able, May}

pub gives-dec : (needs : List Need) (g k : ℕ) → Dec (Gives needs g k)
gives-dec needs g k = by-test (givesb needs g k) (gives-is needs g k)

-- the givers of job x let it run in slot s
unfoldable pub ableb : List Need → ℕ → List ℕ → ℕ → Bool
ableb needs s t x =
    leb s (at t x)
    && (all (λ d. imp (eqb d.1 x) (ltb (at t d.0) s)) needs
    && all₂ (λ d e. imp (eqb d.1 x) (imp (eqb e.1 x) (imp (eqb (at t d.0 + 1) s) (imp (eqb (at t e.0 + 1) s) (eqb d.0 e.0))))) needs)

pub able-is : (needs : List Need) (s : ℕ) (t : List ℕ) (x : ℕ) → T (ableb needs s t x) ↔ Able (Gives needs) s t x
unfolding ableb all₂
able-is needs s t x = (to, from)
  where
    to : T (ableb needs s t x) → Able (Gives needs) s t x
    to h =
        let r = simp tests at h in
        record { free = r.0; ready = λ g a. r.1.0 (g, x) a refl; take-one = λ i j a b. r.1.1 (i, x) a (j, x) b refl refl }

    from : Able (Gives needs) s t x → T (ableb needs s t x)
    from y = simp tests (y.free, (λ d a e. y.ready d.0 (rw e at a), λ d a e b p q. y.take-one d.0 e.0 (rw p at a) (rw q at b)))

-- job x starts after slot s in t, and may join the jobs that t has there
unfoldable mayb : List Need → ℕ → List ℕ → ℕ → Bool
mayb needs s t x =
    ableb needs s t x
    && (ltb s (at t x)
    && all₂ (λ d e. imp (eqb d.1 x) (imp (eqb e.0 d.0) (imp (eqb (at t d.0 + 1) s) (imp (eqb (at t e.1) s) false)))) needs)

pub may-dec : (needs : List Need) (s : ℕ) (t : List ℕ) (x : ℕ) → Dec (May (Gives needs) s t x)
unfolding mayb all₂
may-dec needs s t x = by-test (mayb needs s t x) (to, from)
  where
    to : T (mayb needs s t x) → May (Gives needs) s t x
    to h =
        let r = simp tests at h in
        record { able = (able-is needs s t x).0 r.0; later = r.1.0; give-one = λ g k a b. r.1.1 (g, x) a (g, k) b refl refl }

    from : May (Gives needs) s t x → T (mayb needs s t x)
    from y = simp tests ((able-is needs s t x).1 y.able, (y.later, λ d a e b p q. y.give-one d.0 e.1 (rw p at a) (rw q at b)))

-- job x has a giver in the slot before s
abbrev pub GiverBefore : List Need → ℕ → List ℕ → ℕ → Type 0
GiverBefore needs s t x = (g : ℕ) × Gives needs g x × (at t g + 1 ≡ s)

unfoldable pub giver_beforeb : List Need → ℕ → List ℕ → ℕ → Bool
giver_beforeb needs s t x = any (λ d. eqb d.1 x && eqb (at t d.0 + 1) s) needs

pub giver-before-is : (needs : List Need) (s : ℕ) (t : List ℕ) (x : ℕ) → T (giver_beforeb needs s t x) ↔ GiverBefore needs s t x
unfolding giver_beforeb
giver-before-is needs s t x = (
  λ h. let r = simp tests at h in let a : Gives needs r.0.0 r.0.1 = r.1 in (r.0.0, rw r.2.0 at a, r.2.1),
  λ z. simp tests ((z.0, x), z.1, (refl, z.2)),
)

-- of the takers of each job of the slot before s, A has at most one
unfoldable pub oneb : List Need → ℕ → List ℕ → List ℕ → Bool
oneb needs s t A = all₂ (λ d e. imp (eqb d.0 e.0) (imp (has d.1 A) (imp (has e.1 A) (imp (eqb (at t d.0 + 1) s) (eqb d.1 e.1))))) needs

pub one-is : (needs : List Need) (s : ℕ) (t A : List ℕ)
    → T (oneb needs s t A) ↔ ((g j k : ℕ) → Gives needs g j → Gives needs g k → Memᴰ j A → Memᴰ k A → at t g + 1 ≡ s → j ≡ k)
unfolding oneb all₂
one-is needs s t A = (
  λ h g j k a b. (simp tests at h) (g, j) a (g, k) b refl,
  λ f. simp tests (λ d a e b c. f d.0 d.1 e.1 a (rw c b)),
)

-- of the takers of each job of the slot before s that B has any of, A has one
unfoldable pub servedb : List Need → ℕ → List ℕ → List ℕ → List ℕ → Bool
servedb needs s t B A = all (λ d. imp (has d.1 B) (imp (eqb (at t d.0 + 1) s) (any (λ e. eqb e.0 d.0 && has e.1 A) needs))) needs

pub served-is : (needs : List Need) (s : ℕ) (t B A : List ℕ)
    → T (servedb needs s t B A) ↔ ((g j : ℕ) → Gives needs g j → Memᴰ j B → at t g + 1 ≡ s → (k : ℕ) × Gives needs g k × Memᴰ k A)
unfolding servedb
served-is needs s t B A = (
  λ h g j a m e. let r = (simp tests at h) (g, j) a m e in let b : Gives needs r.0.0 r.0.1 = r.1 in (r.0.1, rw r.2.0 at b, r.2.1),
  λ f. simp tests (λ d a m e. let r = f d.0 d.1 a m e in ((d.0, r.0), r.1, (refl, r.2))),
)
