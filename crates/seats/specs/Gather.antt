-- Sets of places that are gathered job by job: one job more, one set less another, and what they have. Assumes nothing.
use Rattle.std.specs.Prelude.{◌≡◌, Bool, ◌||◌, ℕ, T, eqb}
use Rattle.std.proofs.Math.Path.{refl}
use Rattle.std.proofs.Common.{sym, ap, ◌∙◌}
use Rattle.std.proofs.Math.Bool.{true, false}
use mathlib.Core.List.{List, [], ◌∷◌, ◌++◌, Memᴰ}
use Rattle.rules.specs.Basics.{choose}
use Rattle.laws.specs.Tests.{choose_yes, choose_no}
use Rattle.jobset.specs.declared.Set.{Set}
use Rattle.jobset.specs.Sets.{member, with, minus, Subset}
use Rattle.jobset.specs.Membership.{member-with, in-minus, set-ext}
use Rattle.jobset.specs.Inclusion.{subset-antisym}
use Rattle.jobset.specs.Tests.{absent, present}
use Rattle.places.specs.Seats.{seats_of, in-seats}
use Rattle.places.specs.Building.{Gathers}

or_swap : (a b c : Bool) → ((a || b) || c) ≡ ((a || c) || b)
or_swap true b c = refl
or_swap false true true = refl
or_swap false true false = refl
or_swap false false true = refl
or_swap false false false = refl

-- two places may be added in either order
with-swap : (S : Set) (p q : ℕ) → with (with S p) q ≡ with (with S q) p
with-swap S p q = set-ext (with (with S p) q) (with (with S q) p) (λ j. simp member-with (or_swap (member S j) (eqb j p) (eqb j q)))

-- one job more at the end
pub seats-snoc : (π : ℕ → ℕ) (t : ℕ → Bool) (xs : List ℕ) (i : ℕ) → seats_of π t (xs ++ i ∷ []) ≡ choose (t i) (with (seats_of π t xs) (π i)) (seats_of π t xs)
unfolding seats_of
seats-snoc π t [] i = refl
seats-snoc π t (x ∷ xs) i = ap (λ (S : Set). choose (t x) (with S (π x)) S) (seats-snoc π t xs i) ∙ turn (t x) (t i) (seats_of π t xs)
  where
    turn : (a b : Bool) (S : Set) → choose a (with (choose b (with S (π i)) S) (π x)) (choose b (with S (π i)) S) ≡ choose b
        (with (choose a (with S (π x)) S) (π i)) (choose a (with S (π x)) S)
    turn true true S = unfold choose in with-swap S (π i) (π x)
    turn true false S = unfold choose in refl
    turn false true S = unfold choose in refl
    turn false false S = unfold choose in refl

-- one that passes the test, and one that does not
pub seats-with : (π : ℕ → ℕ) (t : ℕ → Bool) (xs : List ℕ) (i : ℕ) → T (t i) → seats_of π t (xs ++ i ∷ []) ≡ with (seats_of π t xs) (π i)
seats-with π t xs i y = seats-snoc π t xs i ∙ choose_yes (t i) (with (seats_of π t xs) (π i)) (seats_of π t xs) y

pub seats-skip : (π : ℕ → ℕ) (t : ℕ → Bool) (xs : List ℕ) (i : ℕ) → (T (t i) → ⊥) → seats_of π t (xs ++ i ∷ []) ≡ seats_of π t xs
seats-skip π t xs i n = seats-snoc π t xs i ∙ choose_no (t i) (with (seats_of π t xs) (π i)) (seats_of π t xs) n

-- jobs of one list that pass one test are of the other and pass the other
seats-under : (π : ℕ → ℕ) (p q : ℕ → Bool) (xs ys : List ℕ) → ((i : ℕ) → Memᴰ i xs → T (p i) → Memᴰ i ys × T (q i)) → Subset (seats_of π p xs)
    (seats_of π q ys)
unfolding Subset
seats-under π p q xs ys f k m = let w = (in-seats π p xs k).0 m in let v = f w.0 w.1 w.3 in (in-seats π q ys k).1 (w.0, v.0, w.2, v.1)

pub seats-ext : (π : ℕ → ℕ) (p q : ℕ → Bool) (xs ys : List ℕ) → ((i : ℕ) → Memᴰ i xs → T (p i) → Memᴰ i ys × T (q i))
    → ((i : ℕ) → Memᴰ i ys → T (q i) → Memᴰ i xs × T (p i)) → seats_of π p xs ≡ seats_of π q ys
seats-ext π p q xs ys f g = subset-antisym (seats_of π p xs) (seats_of π q ys) (seats-under π p q xs ys f) (seats-under π q p ys xs g)

-- without the places of jobs that pass e, where no job that stays shares its place with one of them
pub seats-minus : (π : ℕ → ℕ) (p e q : ℕ → Bool) (xs : List ℕ) → ((i : ℕ) → Memᴰ i xs → T (p i) → (T (e i) → ⊥) → T (q i)) →
    ((i : ℕ) → Memᴰ i xs → T (q i) → T (p i))
    → ((i j : ℕ) → Memᴰ i xs → Memᴰ j xs → T (q i) → T (e j) → π i ≡ π j → ⊥) → minus (seats_of π p xs) (seats_of π e xs) ≡ seats_of π q xs
unfolding Subset
seats-minus π p e q xs stays was apart = subset-antisym (minus (seats_of π p xs) (seats_of π e xs)) (seats_of π q xs)
    (λ k m. let w = (in-minus (seats_of π p xs) (seats_of π e xs) k).0 m in let v = (in-seats π p xs k).0 w.0 in
    (in-seats π q xs k).1 (
      v.0,
      v.1,
      v.2,
      stays v.0 v.1 v.3
          (λ t. present (member (seats_of π e xs) k) ((in-seats π e xs k).1 (v.0, v.1, v.2, t)) w.1),
    ))
    (λ k m. let w = (in-seats π q xs k).0 m in (in-minus (seats_of π p xs) (seats_of π e xs) k).1 (
      (in-seats π p xs k).1 (w.0, w.1, w.2, was w.0 w.1 w.3),
      absent (member (seats_of π e xs) k) (λ a. let v = (in-seats π e xs k).0 a in apart w.0 v.0 w.1 v.1 w.3 v.3 (w.2 ∙ sym v.2)),
    ))

-- what such a set gathers
pub seats-gather : (π : ℕ → ℕ) (t : ℕ → Bool) (xs : List ℕ) (Q : ℕ → Type 0) → ((i : ℕ) → Memᴰ i xs → T (t i) → Q i) →
    ((i : ℕ) → Q i → Memᴰ i xs × T (t i))
    → Gathers π (seats_of π t xs) Q
seats-gather π t xs Q f g k = (
  λ m. let w = (in-seats π t xs k).0 m in (w.0, f w.0 w.1 w.3, w.2),
  λ w. let v = g w.0 w.1 in (in-seats π t xs k).1 (w.0, v.0, w.2, v.1),
)
