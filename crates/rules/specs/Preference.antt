-- The order of preference, and the best start list within a limit (document 01, "Preference and boards", question 13). Assumes nothing.
use Rattle.std.specs.Prelude.{◌≡◌, ◌≢◌, ◌↔◌, Bool, true, false, ◌&&◌, ◌||◌, List, [], ◌∷◌, ◌++◌, map, ℕ, zero, suc, ◌<◌, ltb, eqb}
use Rattle.std.proofs.Math.Option.{Option, none, some}
use Rattle.rules.specs.Basics.{choose, at, filter}
use Rattle.rules.specs.Program.{slots}

-- "compared in the earliest slot whose jobs differ: the lowest job number running there in just one of them decides,
-- and the list that has it is preferred": r is preferred to u
pub record Preferred (n : ℕ) (r u : List ℕ) : Type 0 where
  pub slot : ℕ
  pub job : ℕ
  pub job-in : job < n
  pub before : (s i : ℕ) → s < slot → i < n → (at r i ≡ s) ↔ (at u i ≡ s)
  pub lower : (i : ℕ) → i < job → (at r i ≡ slot) ↔ (at u i ≡ slot)
  pub has : at r job ≡ slot
  pub lacks : at u job ≢ slot

-- ---- the same by computation

-- which jobs run in slot s
unfoldable pub slot_row : ℕ → List ℕ → List Bool
slot_row s t = map (λ x. eqb x s) t

-- the k slots from s up, one after the other
unfoldable pub slot_rows : ℕ → ℕ → List ℕ → List Bool
slot_rows zero s t = []
slot_rows (suc k) s t = slot_row s t ++ slot_rows k (suc s) t

-- a is b, or has true where they first differ: the lexicographic order, true first
unfoldable pub lexb : List Bool → List Bool → Bool
lexb [] b = true
lexb (x ∷ a) [] = false
lexb (true ∷ a) (true ∷ b) = lexb a b
lexb (true ∷ a) (false ∷ b) = true
lexb (false ∷ a) (true ∷ b) = false
lexb (false ∷ a) (false ∷ b) = lexb a b

-- r is u or is preferred to it, both with at most L slots (law `preferred-is`)
unfoldable pub preferredb : ℕ → List ℕ → List ℕ → Bool
preferredb L r u = lexb (slot_rows L 0 r) (slot_rows L 0 u)

-- a has fewer slots than b, or as many and is b or preferred to it
unfoldable pub betterb : ℕ → List ℕ → List ℕ → Bool
betterb L a b = ltb (slots a) (slots b) || eqb (slots a) (slots b) && preferredb L a b

-- ---- the best list, by exhaustive search

-- the better of x and a list that may be there
unfoldable pub better : (List ℕ → List ℕ → Bool) → List ℕ → Option (List ℕ) → List ℕ
better q x none = x
better q x (some y) = choose (q x y) x y

-- the best entry by q
unfoldable pub best_by : (List ℕ → List ℕ → Bool) → List (List ℕ) → Option (List ℕ)
best_by q [] = none
best_by q (x ∷ xs) = some (better q x (best_by q xs))

-- every number below L before every list of ls
unfoldable pub prefixed : ℕ → List (List ℕ) → List (List ℕ)
prefixed zero ls = []
prefixed (suc k) ls = map (λ l. k ∷ l) ls ++ prefixed k ls

-- every start list of n jobs that fits the limit L
unfoldable pub start_lists : ℕ → ℕ → List (List ℕ)
start_lists zero L = [] ∷ []
start_lists (suc n) L = prefixed L (start_lists n L)

-- of all start lists within L that pass p the shortest, and of those the preferred
unfoldable pub best : ℕ → (List ℕ → Bool) → ℕ → Option (List ℕ)
best n p L = best_by (betterb L) (filter p (start_lists n L))
