-- The words that the rules are written in: a choice, tests over lists, counts. Assumes nothing.
use Rattle.std.specs.Prelude.{Bool, true, false, ◌&&◌, ◌||◌, ℕ, zero, suc, max, length, get_or, eqb}
use mathlib.Core.List.{List, [], ◌∷◌, ◌++◌, Memᴰ}

-- if-then-else; it does not unfold by itself, so that laws find its two sides
unfoldable pub choose : {A : Type 0} → Bool → A → A → A
choose true a b = a
choose false a b = b

-- entry i of a list of numbers, 0 past its end
abbrev pub at : List ℕ → ℕ → ℕ
at l i = get_or l i 0

-- a implies b
unfoldable pub imp : Bool → Bool → Bool
imp true b = b
imp false b = true

-- p holds of every entry
unfoldable pub all : {A : Type 0} → (A → Bool) → List A → Bool
all p [] = true
all p (x ∷ xs) = let r = all p xs in p x && r

-- p holds of some entry
unfoldable pub any : {A : Type 0} → (A → Bool) → List A → Bool
any p [] = false
any p (x ∷ xs) = let r = any p xs in p x || r

-- i is an entry
unfoldable pub has : ℕ → List ℕ → Bool
has i xs = any (eqb i) xs

-- the entries that pass p
unfoldable pub filter : {A : Type 0} → (A → Bool) → List A → List A
filter p [] = []
filter p (x ∷ xs) = let r = filter p xs in choose (p x) (x ∷ r) r

-- the k numbers from i up
unfoldable pub range : ℕ → ℕ → List ℕ
range zero i = []
range (suc k) i = i ∷ range k (suc i)

-- f i, f (i + 1), ..: k of them
unfoldable pub tabulate : {A : Type 0} → (ℕ → A) → ℕ → ℕ → List A
tabulate f zero i = []
tabulate f (suc k) i = f i ∷ tabulate f k (suc i)

-- f x for each entry x, one behind the other
unfoldable pub joined : {A : Type 0} → (A → List ℕ) → List A → List ℕ
joined f [] = []
joined f (x ∷ xs) = f x ++ joined f xs

-- how many i below n pass p
unfoldable pub count : (ℕ → Bool) → ℕ → ℕ
count p n = length (filter p (range n 0))

-- the largest of f 0, .., f (k - 1), 0 where k is 0
unfoldable pub most : (ℕ → ℕ) → ℕ → ℕ
most f zero = 0
most f (suc k) = max (f k) (most f k)

-- the largest entry, 0 of an empty list
unfoldable pub largest : List ℕ → ℕ
largest [] = 0
largest (x ∷ xs) = max x (largest xs)

-- no entry stands twice
abbrev pub Distinct : {A : Type 0} → List A → Type 0
Distinct [] = Unit {0}
Distinct (x ∷ xs) = ¬ (Memᴰ x xs) × Distinct xs
