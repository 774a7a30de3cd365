-- Sets of jobs tried for a slot one after the other: where they come in the order of preference, the first that leads to a result gives the best.
-- Assumes nothing.
use Rattle.std.specs.Prelude.{◌≡◌, refl, ◌⊎◌, ◌↔◌, Bool, true, false}
use Rattle.std.proofs.Math.Logic.{inl, inr}
use Rattle.std.proofs.Common.{⊎_elim, arith}
use mathlib.Core.List.Memᴰ
use mathlib.Core.List.{List, [], ◌∷◌, ◌++◌, map, Memᴰ}
use Rattle.std.proofs.Math.Option.{Option, none, some}
use Prim.Native.Nat.{ℕ, ◌<◌}
use Rattle.rules.specs.Basics.{choose, at, filter}
use Rattle.rules.specs.Preference.{Preferred}
use Rattle.laws.specs.Lists.{map-mem⁻¹, filter-mem⁻¹}
use Rattle.laws.specs.Preference.{Weak, Best, Best-part}

-- ---- the order of the sets

-- S comes before R in the order of preference: the lowest job that is in one of them alone is in S
pub record Sooner (S R : List ℕ) : Type 0 where
  pub job : ℕ
  pub has : Memᴰ job S
  pub lacks : ¬ (Memᴰ job R)
  pub lower : (i : ℕ) → i < job → Memᴰ i S ↔ Memᴰ i R

-- each comes before all that follow
abbrev pub Ordered : List (List ℕ) → Type 0
Ordered [] = Unit {0}
Ordered (S ∷ Ss) = ((R : List ℕ) → Memᴰ R Ss → Sooner S R) × Ordered Ss

pub ordered-append : (Ss Rs : List (List ℕ)) → Ordered Ss → Ordered Rs → ((S R : List ℕ) → Memᴰ S Ss → Memᴰ R Rs → Sooner S R) → Ordered (Ss ++ Rs)
ordered-append [] Rs a b h = b
ordered-append (S ∷ Ss) Rs a b h = (
  λ R m. ⊎_elim (a.0 R) (h S R (Memᴰ.head refl)) (Memᴰ.append_cases Ss m),
  ordered-append Ss Rs a.1 b (λ X R m. h X R (Memᴰ.tail m)),
)

pub ordered-map : (f : List ℕ → List ℕ) (Ss : List (List ℕ)) → ((S R : List ℕ) → Memᴰ S Ss → Memᴰ R Ss → Sooner S R → Sooner (f S) (f R)) → Ordered Ss
    → Ordered (map f Ss)
ordered-map f [] h a = tt
ordered-map f (S ∷ Ss) h a = (
  map-mem⁻¹ (λ R. Sooner (f S) R) f Ss (λ R m. h S R (Memᴰ.head refl) (Memᴰ.tail m) (a.0 R m)),
  ordered-map f Ss (λ X R m k. h X R (Memᴰ.tail m) (Memᴰ.tail k)) a.1,
)

pub ordered-filter : (p : List ℕ → Bool) (Ss : List (List ℕ)) → Ordered Ss → Ordered (filter p Ss)
unfolding filter choose
ordered-filter p [] a = tt
ordered-filter p (S ∷ Ss) a = go (p S) (ordered-filter p Ss a.1)
  where
    go : (b : Bool) → Ordered (filter p Ss) → Ordered (choose b (S ∷ filter p Ss) (filter p Ss))
    go true r = (λ R m. a.0 R (filter-mem⁻¹ p Ss R m).0, r)
    go false r = r

-- ---- the first result

-- the first of two results that is there
unfoldable pub or_else : {A : Type 0} → Option A → Option A → Option A
or_else none p = p
or_else (some a) p = some a

-- the first result of f along a list
unfoldable pub first : {A B : Type 0} → (A → Option B) → List A → Option B
first f [] = none
first f (x ∷ xs) = let r = first f xs in or_else (f x) r

-- of a family in two parts, the first preferred, the first result is the best
best-or_else : (n : ℕ) (A B : List ℕ → Type 0) → ((u v : List ℕ) → A u → B v → Weak n u v) → (o p : Option (List ℕ)) → Best n A o → Best n B p
    → Best n (λ u. A u ⊎ B u) (or_else o p)
unfolding or_else
best-or_else n A B cmp none none a b = λ u h. ⊎_elim (a u) (b u) h
best-or_else n A B cmp none (some q) a b = (inr b.0, λ u h. ⊎_elim (λ x. absurd (a u x)) (b.1 u) h)
best-or_else n A B cmp (some r) p a b = (inl a.0, λ u h. ⊎_elim (a.1 u) (cmp r u a.0) h)

-- u starts just the jobs of S in slot s
abbrev pub Row : ℕ → ℕ → List ℕ → List ℕ → Type 0
Row n s S u = (i : ℕ) → i < n → (at u i ≡ s) ↔ Memᴰ i S

-- u starts in slot s just what one of the sets has
abbrev pub OneOf : ℕ → ℕ → List (List ℕ) → List ℕ → Type 0
OneOf n s Ss u = (S : List ℕ) × Memᴰ S Ss × Row n s S u

-- a family of lists that agree before slot s
module _ (n s : ℕ) (G : List ℕ → Type 0) (past : (u v : List ℕ) → G u → G v → (r i : ℕ) → r < s → i < n → at u i ≡ r → at v i ≡ r) where
  -- of two lists, the one whose set comes first is preferred
  row-preferred : (S R u v : List ℕ) → ((i : ℕ) → Memᴰ i S → i < n) → Sooner S R → G u → G v → Row n s S u → Row n s R v → Preferred n u v
  row-preferred S R u v S-in d a b p q = record {
    slot = s;
    job = d.job;
    job-in = job-in;
    before = λ r i h l. (past u v a b r i h l, past v u b a r i h l);
    lower = λ i h. let l : i < n = omega (arith, job-in) in
        (λ e. (q i l).1 ((d.lower i h).0 ((p i l).0 e)), λ e. (p i l).1 ((d.lower i h).1 ((q i l).0 e)));
    has = (p d.job job-in).1 d.has;
    lacks = λ e. d.lacks ((q d.job job-in).0 e);
  }
    where
      job-in : d.job < n
      job-in = S-in d.job d.has

  module _ (f : List ℕ → Option (List ℕ)) where
    first_of : (Ss : List (List ℕ)) → Ordered Ss → ((S : List ℕ) → Memᴰ S Ss → (i : ℕ) → Memᴰ i S → i < n)
        → ((S : List ℕ) → Memᴰ S Ss → Best n (λ u. G u × Row n s S u) (f S)) → Best n (λ u. G u × OneOf n s Ss u) (first f Ss)
    unfolding first
    first_of [] o S-in h = λ u g. Memᴰ.not-nil g.1.1
    first_of (S ∷ Ss) o S-in h =
        Best-part n (λ u. A u ⊎ B u) (λ u. G u
        × OneOf n s (S ∷ Ss) u) both (λ u g. (u, split u g.0 g.1.0 (Memᴰ.cases_cons g.1.1) g.1.2, inl refl)) (or_else (f S) (first f Ss))
        (best-or_else n A B (λ u v a b. inr
        (row-preferred S b.1.0 u v (S-in S (Memᴰ.head refl)) (o.0 b.1.0 b.1.1) a.0 b.0 a.1 b.1.2)) (f S) (first f Ss)
        (h S (Memᴰ.head refl)) (first_of Ss o.1 (λ R m. S-in R (Memᴰ.tail m)) (λ R m. h R (Memᴰ.tail m))))
      where
        A : List ℕ → Type 0
        A u = G u × Row n s S u

        B : List ℕ → Type 0
        B u = G u × OneOf n s Ss u

        both : (u : List ℕ) → A u ⊎ B u → G u × OneOf n s (S ∷ Ss) u
        both u (inl a) = (a.0, (S, Memᴰ.head refl, a.1))
        both u (inr b) = (b.0, (b.1.0, Memᴰ.tail b.1.1, b.1.2))

        split : (u : List ℕ) → G u → (R : List ℕ) → (R ≡ S) ⊎ Memᴰ R Ss → Row n s R u → A u ⊎ B u
        split u g R (inl e) w = inl (g, rw e at w)
        split u g R (inr m) w = inr (g, (R, m, w))

    -- the first result is best in the family, if each list has one that is no worse and starts one of the sets, and f is best for each set
    pub first-best : (Ss : List (List ℕ)) → Ordered Ss → ((S : List ℕ) → Memᴰ S Ss → (i : ℕ) → Memᴰ i S → i < n)
        → ((u : List ℕ) → G u → (v : List ℕ) × (G v × OneOf n s Ss v) × Weak n v u) → ((S : List ℕ) → Memᴰ S Ss → Best n (λ u. G u × Row n s S u) (f S))
        → Best n G (first f Ss)
    first-best Ss o S-in cover h = Best-part n (λ u. G u × OneOf n s Ss u) G (λ u g. g.0) cover (first f Ss) (first_of Ss o S-in h)
