-- Boolean tests, and what each of them says: `simp tests` turns a test into its meaning and back. Assumes nothing.
use Rattle.std.specs.Prelude.{◌≡◌, refl, ◌⊎◌, ◌↔◌, Bool, true, false, not, ◌&&◌, ◌||◌, ℕ, ◌≤◌, ◌<◌, T, leb, ltb, eqb}
use Rattle.std.proofs.Common.{inl, inr, eqb→eq, leb→le, le→leb, ltb→lt, lt→ltb}
use Rattle.std.proofs.lemmas.Bool.{false≢true}
use mathlib.Core.List.Memᴰ
use mathlib.Core.List.{List, [], ◌∷◌, Memᴰ}
use Rattle.std.proofs.Math.Dec.{eqb_refl}
use Rattle.rules.specs.Basics.{choose, imp, all, any, has}

pub T_and : (a b : Bool) → T (a && b) ↔ (T a × T b)
T_and true b = (λ h. (tt, h), λ h. h.1)
T_and false b = (λ h. absurd h, λ h. h.0)

pub T-or : (a b : Bool) → T (a || b) ↔ (T a ⊎ T b)
T-or true b = (λ h. inl tt, λ h. tt)
T-or false b = (λ h. inr h, λ h. right h)
  where
    right : ⊥ ⊎ T b → T b
    right (inl z) = absurd z
    right (inr z) = z

pub T_not : (a : Bool) → T (not a) ↔ (T a → ⊥)
T_not true = (λ h k. h, λ f. f tt)
T_not false = (λ h k. k, λ f. tt)

pub T-imp : (a b : Bool) → T (imp a b) ↔ (T a → T b)
unfolding imp
T-imp true b = (λ h k. h, λ f. f tt)
T-imp false b = (λ h k. absurd k, λ f. tt)

pub T-leb : (m n : ℕ) → T (leb m n) ↔ (m ≤ n)
T-leb m n = (leb→le m n, le→leb m n)

pub T-ltb : (m n : ℕ) → T (ltb m n) ↔ (m < n)
T-ltb m n = (ltb→lt m n, lt→ltb m n)

pub T-eqb : (m n : ℕ) → T (eqb m n) ↔ (m ≡ n)
T-eqb m n = (eqb→eq m n, λ e. rw e (eqb_refl n))

pub T-all : {A : Type 0} (p : A → Bool) (l : List A) → T (all p l) ↔ ((x : A) → Memᴰ x l → T (p x))
unfolding all
T-all p [] = (λ h x m. absurd (Memᴰ.not-nil m), λ f. tt)
T-all {A} p (y ∷ ys) = step (T-all p ys)
  where
    step : T (all p ys) ↔ ((x : A) → Memᴰ x ys → T (p x)) → T (p y && all p ys) ↔ ((x : A) → Memᴰ x (y ∷ ys) → T (p x))
    step ih = (λ h x m. go h x (Memᴰ.cases_cons m), λ f. (T_and (p y) (all p ys)).1 (f y (Memᴰ.head refl), ih.1 (λ x m. f x (Memᴰ.tail m))))
      where
        go : T (p y && all p ys) → (x : A) → (x ≡ y) ⊎ Memᴰ x ys → T (p x)
        go h x (inl e) = rw e ((T_and (p y) (all p ys)).0 h).0
        go h x (inr m) = ih.0 ((T_and (p y) (all p ys)).0 h).1 x m

pub T-any : {A : Type 0} (p : A → Bool) (l : List A) → T (any p l) ↔ ((x : A) × Memᴰ x l × T (p x))
unfolding any
T-any p [] = (λ h. absurd h, λ f. absurd (Memᴰ.not-nil f.1))
T-any {A} p (y ∷ ys) = step (T-any p ys)
  where
    step : T (any p ys) ↔ ((x : A) × Memᴰ x ys × T (p x)) → T (p y || any p ys) ↔ ((x : A) × Memᴰ x (y ∷ ys) × T (p x))
    step ih = (λ h. go ((T-or (p y) (any p ys)).0 h), λ f. (T-or (p y) (any p ys)).1 (back f.0 f.2 (Memᴰ.cases_cons f.1)))
      where
        go : T (p y) ⊎ T (any p ys) → (x : A) × Memᴰ x (y ∷ ys) × T (p x)
        go (inl h) = (y, Memᴰ.head refl, h)
        go (inr h) = let r = ih.0 h in (r.0, Memᴰ.tail r.1, r.2)

        back : (x : A) → T (p x) → (x ≡ y) ⊎ Memᴰ x ys → T (p y) ⊎ T (any p ys)
        back x h (inl e) = inl (rw e at h)
        back x h (inr m) = inr (ih.1 (x, m, h))

pub T-has : (i : ℕ) (xs : List ℕ) → T (has i xs) ↔ Memᴰ i xs
unfolding has
T-has i xs = (λ h. let r = (T-any (eqb i) xs).0 h in rw ((T-eqb i r.0).0 r.2) r.1, λ m. (T-any (eqb i) xs).1 (i, m, eqb_refl i))

pub T-choose : (c a b : Bool) → T (choose c a b) ↔ ((T c → T a) × ((T c → ⊥) → T b))
unfolding choose
T-choose true a b = (λ h. (λ k. h, λ n. absurd (n tt)), λ f. f.0 tt)
T-choose false a b = (λ h. (λ k. absurd k, λ n. h), λ f. f.1 (λ k. k))

pub ruleset tests = (T_and, T-or, T_not, T-imp, T-choose, T-leb, T-ltb, T-eqb, T-all, T-any, T-has)

-- a test decides what it says
pub by-test : {P : Type 0} (b : Bool) → T b ↔ P → Dec P
by-test true h = yes (h.0 tt)
by-test false h = no h.1

-- two tests that say the same are equal
pub bool-ext : (a b : Bool) → (T a → T b) → (T b → T a) → a ≡ b
bool-ext true true f g = refl
bool-ext true false f g = absurd (f tt)
bool-ext false true f g = absurd (g tt)
bool-ext false false f g = refl

-- what fails, where a test fails
pub not-all : {A : Type 0} (p : A → Bool) (l : List A) → ¬ T (all p l) → (x : A) × Memᴰ x l × ¬ T (p x)
unfolding all
not-all p [] h = absurd (h tt)
not-all {A} p (x ∷ l) h = go (p x) refl (λ r. not-all p l r) h
  where
    go : (b : Bool) → p x ≡ b → (¬ T (all p l) → (x : A) × Memᴰ x l × ¬ T (p x)) → ¬ T (b && all p l) → (y : A) × Memᴰ y (x ∷ l) × ¬ T (p y)
    go true e r k = let w = r k in (w.0, Memᴰ.tail w.1, w.2)
    go false e r k = (x, Memᴰ.head refl, λ t. rw e at t)

pub not-imp : (a b : Bool) → ¬ T (imp a b) → T a × ¬ T b
unfolding imp
not-imp true b k = (tt, k)
not-imp false b k = absurd (k tt)

-- a test that is true, and one that is false, as an equation
pub T_true : (b : Bool) → T b ↔ (b ≡ true)
T_true true = (λ h. refl, λ e. tt)
T_true false = (λ h. absurd h, λ e. absurd (false≢true e))

pub T_false : (b : Bool) → (T b → ⊥) → b ≡ false
T_false true h = absurd (h tt)
T_false false h = refl

-- to show P of a choice, show it of each side, with what the test says
pub by-choice : {A : Type 0} (P : A → Type 0) (b : Bool) {x y : A} → (T b → P x) → ((T b → ⊥) → P y) → P (choose b x y)
unfolding choose
by-choice P true f g = f tt
by-choice P false f g = g (λ h. h)

-- the side that a choice takes
pub choose_yes : {A : Type 0} (b : Bool) (x y : A) → T b → choose b x y ≡ x
unfolding choose
choose_yes true x y t = refl
choose_yes {A = A} false x y t = elim t [ ]

pub choose_no : {A : Type 0} (b : Bool) (x y : A) → (T b → ⊥) → choose b x y ≡ y
unfolding choose
choose_no true x y n = absurd (n tt)
choose_no false x y n = refl
