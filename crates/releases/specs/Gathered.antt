-- What a code has gathered, in whatever order: the slot behind it is the value of formula (1). Assumes nothing.
use Rattle.std.specs.Prelude.{◌≡◌, refl, ◌≢◌, ◌⊎◌, ◌↔◌, ℕ, ◌+◌, ◌*◌, ◌/◌, ◌%◌, ◌≤◌, ◌<◌}
use Rattle.std.proofs.Common.{sym, ap, ◌∙◌, inl, inr, ⊎_elim, arith, lt-ltb, le-ltb, eq-eqb, ne_eqb}
use mathlib.Core.List.Memᴰ
use mathlib.Core.List.{List, [], ◌∷◌, ◌++◌, Memᴰ}
use Rattle.std.proofs.Math.Decide.{dec_lt, ℕ_discrete}
use Rattle.rules.specs.Basics.{choose, Distinct}
use Rattle.rules.specs.Needs.{Need, Gives}
use Rattle.rules.specs.Windows.{release_by}
use Rattle.laws.specs.Releases.{Case, nobody, single, double, case-release}
use Rattle.releases.specs.Codes.{raised, behind, raised_over}

-- the three ways of a code
pub raised-later : (code slot : ℕ) → code / 2 < slot → raised code slot ≡ 2 * slot
unfolding raised choose
raised-later code slot h = rw (lt-ltb (code / 2) slot h)

pub raised-again : (code slot : ℕ) → code / 2 ≡ slot → raised code slot ≡ 2 * slot + 1
unfolding raised choose
raised-again code slot h = rw (le-ltb (code / 2) slot (omega arith), eq-eqb (code / 2) slot h)

pub raised-before : (code slot : ℕ) → slot < code / 2 → raised code slot ≡ code
unfolding raised choose
raised-before code slot h = rw (le-ltb (code / 2) slot (omega arith), ne_eqb (code / 2) slot (λ e. omega arith))

-- the code has met the slot r g + 1 of just the jobs g in S
pub record Gathered (r : ℕ → ℕ) (code : ℕ) (S : ℕ → Type 0) : Type 0 where
  pub bound : (g : ℕ) → S g → r g + 1 ≤ code / 2
  pub found : 0 < code / 2 → (j : ℕ) × S j × (r j + 1 ≡ code / 2)
  pub lone : code % 2 ≡ 0 → (g h : ℕ) → S g → S h → r g + 1 ≡ code / 2 → r h + 1 ≡ code / 2 → g ≡ h
  pub tied : code % 2 ≡ 1 → (j k : ℕ) × S j × S k × (j ≢ k) × (r j + 1 ≡ code / 2) × (r k + 1 ≡ code / 2)

-- none yet
pub gathered_none : (r : ℕ → ℕ) (S : ℕ → Type 0) → ((g : ℕ) → S g → ⊥) → Gathered r 0 S
gathered_none r S none = record {
  bound = λ g s. absurd (none g s);
  found = λ l. absurd (omega arith);
  lone = λ e g h s. absurd (none g s);
  tied = λ e. absurd (omega arith);
}

-- it depends on which jobs they are, and on their slots alone
pub gathered-same : (r q : ℕ → ℕ) (code : ℕ) (S U : ℕ → Type 0) → ((g : ℕ) → S g ↔ U g) → ((g : ℕ) → S g → r g ≡ q g) → Gathered r code S → Gathered q code U
gathered-same r q code S U same value w = record {
  bound = λ g u. let s = (same g).1 u in omega (arith, w.bound g s, value g s);
  found = λ l. let (j, s, e) = w.found l in (j, (same j).0 s, omega (arith, e, value j s));
  lone = λ e g h u v a b. let s = (same g).1 u in let t = (same h).1 v in w.lone e g h s t (omega (arith, value g s)) (omega (arith, value h t));
  tied = λ e. let (j, k, s, t, n, a, b) = w.tied e in (j, k, (same j).0 s, (same k).0 t, n, omega (arith, a, value j s), omega (arith, b, value k t));
}

-- one job more
module _ (r : ℕ → ℕ) (code : ℕ) (S : ℕ → Type 0) (x : ℕ) (new : S x → ⊥) (w : Gathered r code S) where
  -- the jobs in S, and x
  abbrev More : ℕ → Type 0
  More g = S g ⊎ (g ≡ x)

  later : code / 2 < r x + 1 → Gathered r (2 * (r x + 1)) More
  later l = record {
    bound = λ g. ⊎_elim (λ s. omega (arith, w.bound g s)) (λ e. omega (arith, ap r e));
    found = λ _. (x, inr refl, omega arith);
    lone = λ e g h. ⊎_elim (λ s v a. absurd (omega (arith, w.bound g s))) (λ p. ⊎_elim (λ s a b. absurd (omega (arith, w.bound h s))) (λ q a b. p ∙ sym q));
    tied = λ e. absurd (omega arith);
  }

  again : code / 2 ≡ r x + 1 → Gathered r (2 * (r x + 1) + 1) More
  again l = record {
    bound = λ g. ⊎_elim (λ s. omega (arith, w.bound g s)) (λ e. omega (arith, ap r e));
    found = λ _. (x, inr refl, omega arith);
    lone = λ e. absurd (omega arith);
    tied = λ e. let (j, s, q) = w.found (omega arith) in (j, x, inl s, inr refl, (λ p. new (rw p at s)), omega (arith, q), omega arith);
  }

  before : r x + 1 < code / 2 → Gathered r code More
  before l = record {
    bound = λ g. ⊎_elim (λ s. w.bound g s) (λ e. omega (arith, ap r e));
    found = λ p. let (j, s, q) = w.found p in (j, inl s, q);
    lone = λ e g h. ⊎_elim
        (λ s. ⊎_elim (λ t a b. w.lone e g h s t a b) (λ q a b. absurd (omega (arith, ap r q))))
        (λ p v a b. absurd (omega (arith, ap r p)));
    tied = λ e. let (j, k, s, t, n, a, b) = w.tied e in (j, k, inl s, inl t, n, a, b);
  }

  pub gathered-more : Gathered r (raised code (r x + 1)) More
  gathered-more = go (dec_lt (code / 2) (r x + 1)) (ℕ_discrete (code / 2) (r x + 1))
    where
      go : Dec (code / 2 < r x + 1) → Dec (code / 2 ≡ r x + 1) → Gathered r (raised code (r x + 1)) More
      go (yes l) d = rw (raised-later code (r x + 1) l) (later l)
      go (no l) (yes e) = rw (raised-again code (r x + 1) e) (again e)
      go (no l) (no e) = rw (raised-before code (r x + 1) (omega arith)) (before (omega arith))

-- where the jobs are the givers of i, the slot behind the code is that of formula (1)
pub behind-is : (r : ℕ → ℕ) (code : ℕ) (S : ℕ → Type 0) (needs : List Need) (i : ℕ) → ((g : ℕ) → S g ↔ Gives needs g i) → Gathered r code S
    → behind code ≡ release_by r needs i
behind-is r code S needs i same w = case-release needs r i (behind code) (unfold behind in go (dec_lt 0 (code / 2)) (ℕ_discrete (code % 2) 0))
  where
    go : Dec (0 < code / 2) → Dec (code % 2 ≡ 0) → Case needs r i (code / 2 + code % 2)
    go (no z) (yes e) = nobody (λ g a. omega (arith, w.bound g ((same g).1 a))) (omega arith)
    go (no z) (no e) = let (j, k, s, t, n, a, b) = w.tied (omega arith) in absurd (omega (arith, a))
    go (yes l) (yes e) =
        let (j, s, q) = w.found l in
        single j ((same j).0 s) (λ g a p. below j s q g ((same g).1 a) p (ℕ_discrete (r g + 1) (code / 2))) (omega (arith, q))
      where
        below : (j : ℕ) → S j → r j + 1 ≡ code / 2 → (g : ℕ) → S g → g ≢ j → Dec (r g + 1 ≡ code / 2) → r g < r j
        below j s q g t p (yes u) = absurd (p (w.lone e g j t s u q))
        below j s q g t p (no u) = omega (arith, w.bound g t)
    go (yes l) (no e) =
        let (j, k, s, t, n, a, b) = w.tied (omega arith) in
        double j k ((same j).0 s) ((same k).0 t) n (omega (arith, a, b)) (λ g u. omega (arith, a, w.bound g ((same g).1 u))) (omega (arith, a))

-- ---- over a list

-- the jobs of a list, each once
pub over-gathered : (r : ℕ → ℕ) (xs : List ℕ) (code : ℕ) (S : ℕ → Type 0) → Distinct xs → ((x : ℕ) → Memᴰ x xs → S x → ⊥) → Gathered r code S
    → Gathered r (raised_over r code xs) (λ g. S g ⊎ Memᴰ g xs)
unfolding raised_over
over-gathered r [] code S once new w =
    gathered-same r r code S (λ g. S g ⊎ Memᴰ g []) (λ g. (inl, ⊎_elim (λ s. s) (λ m. absurd (Memᴰ.not-nil m)))) (λ g s. refl) w
over-gathered r (x ∷ xs) code S once new w =
    gathered-same r r (raised_over r (raised code (r x + 1)) xs) (λ g. (S g ⊎ (g ≡ x)) ⊎ Memᴰ g xs) (λ g. S g ⊎ Memᴰ g (x ∷ xs)) same (λ g s. refl)
    (over-gathered r xs (raised code (r x + 1)) (λ g. S g ⊎ (g ≡ x)) once.1 fresh (gathered-more r code S x (new x (Memᴰ.head refl)) w))
  where
    fresh : (y : ℕ) → Memᴰ y xs → S y ⊎ (y ≡ x) → ⊥
    fresh y m = ⊎_elim (new y (Memᴰ.tail m)) (λ e. once.0 (rw e at m))

    same : (g : ℕ) → ((S g ⊎ (g ≡ x)) ⊎ Memᴰ g xs) ↔ (S g ⊎ Memᴰ g (x ∷ xs))
    same g = (
      ⊎_elim (⊎_elim inl (λ e. inr (Memᴰ.head e))) (λ m. inr (Memᴰ.tail m)),
      ⊎_elim (λ s. inl (inl s)) (λ m. ⊎_elim (λ e. inl (inr e)) inr (Memᴰ.cases_cons m)),
    )

-- the key law: the code of the givers of i, each once, in any order, has the value of formula (1) behind it
pub over-behind : (r : ℕ → ℕ) (xs : List ℕ) (needs : List Need) (i : ℕ) → Distinct xs → ((g : ℕ) → Memᴰ g xs ↔ Gives needs g i)
    → behind (raised_over r 0 xs) ≡ release_by r needs i
over-behind r xs needs i once same =
    behind-is r (raised_over r 0 xs) (λ g. ⊥ ⊎ Memᴰ g xs) needs i (λ g. (⊎_elim (λ z. absurd z) (same g).0, λ a. inr ((same g).1 a)))
    (over-gathered r xs 0 (λ g. ⊥) once (λ x m z. z) (gathered_none r (λ g. ⊥) (λ g z. z)))

-- it depends on the slots of these jobs alone
pub over-same : (r q : ℕ → ℕ) (xs : List ℕ) (code : ℕ) → ((x : ℕ) → Memᴰ x xs → r x ≡ q x) → raised_over r code xs ≡ raised_over q code xs
unfolding raised_over
over-same r q [] code h = refl
over-same r q (x ∷ xs) code h =
    let e : r x ≡ q x = h x (Memᴰ.head refl) in
    rw e (over-same r q xs (raised code (q x + 1)) (λ y m. h y (Memᴰ.tail m)))

-- one part after the other
pub over-append : (r : ℕ → ℕ) (xs ys : List ℕ) (code : ℕ) → raised_over r code (xs ++ ys) ≡ raised_over r (raised_over r code xs) ys
unfolding raised_over
over-append r [] ys code = refl
over-append r (x ∷ xs) ys code = over-append r xs ys (raised code (r x + 1))

-- a bound
pub raised-bound : (code slot B : ℕ) → code / 2 ≤ B → slot ≤ B → raised code slot / 2 ≤ B
raised-bound code slot B c l = go (dec_lt (code / 2) slot) (ℕ_discrete (code / 2) slot)
  where
    go : Dec (code / 2 < slot) → Dec (code / 2 ≡ slot) → raised code slot / 2 ≤ B
    go (yes h) d = rw (raised-later code slot h) (omega arith)
    go (no h) (yes e) = rw (raised-again code slot e) (omega arith)
    go (no h) (no e) = rw (raised-before code slot (omega arith)) c

pub over-bound : (r : ℕ → ℕ) (xs : List ℕ) (code B : ℕ) → code / 2 ≤ B → ((x : ℕ) → Memᴰ x xs → r x + 1 ≤ B) → raised_over r code xs / 2 ≤ B
unfolding raised_over
over-bound r [] code B c h = c
over-bound r (x ∷ xs) code B c h =
    over-bound r xs (raised code (r x + 1)) B (raised-bound code (r x + 1) B c (h x (Memᴰ.head refl))) (λ y m. h y (Memᴰ.tail m))

pub gathered-bound : (r : ℕ → ℕ) (code : ℕ) (S : ℕ → Type 0) (B : ℕ) → Gathered r code S → ((g : ℕ) → S g → r g + 1 ≤ B) → code / 2 ≤ B
gathered-bound r code S B w h = go (dec_lt 0 (code / 2))
  where
    go : Dec (0 < code / 2) → code / 2 ≤ B
    go (yes l) = let (j, s, e) = w.found l in omega (arith, h j s, e)
    go (no l) = omega arith
