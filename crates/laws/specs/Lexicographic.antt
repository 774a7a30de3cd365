-- The lexicographic order on rows of Booleans, true first, and what it says of two start lists one of which is preferred. Assumes nothing.
use Rattle.std.specs.Prelude.{◌≡◌, refl, ◌≢◌, ◌⊎◌, ◌↔◌, Bool, true, false, List, [], ◌∷◌, ◌++◌, ℕ, zero, suc, ◌+◌, ◌≤◌, ◌<◌, length, T, eqb}
use Rattle.std.proofs.Common.{sym, ap₂, ◌∙◌, inl, inr, arith}
use Rattle.std.proofs.Math.Decide.{ℕ_discrete}
use Rattle.rules.specs.Basics.{at}
use Rattle.rules.specs.Preference.{Preferred, slot_row, slot_rows, lexb}
use Rattle.laws.specs.Tests.{T-eqb, bool-ext}

-- ---- a total order

pub lex-refl : (a : List Bool) → T (lexb a a)
unfolding lexb
lex-refl [] = tt
lex-refl (true ∷ a) = lex-refl a
lex-refl (false ∷ a) = lex-refl a

pub lex-total : (a b : List Bool) → T (lexb a b) ⊎ T (lexb b a)
unfolding lexb
lex-total [] b = inl tt
lex-total (x ∷ a) [] = inr tt
lex-total (true ∷ a) (true ∷ b) = lex-total a b
lex-total (true ∷ a) (false ∷ b) = inl tt
lex-total (false ∷ a) (true ∷ b) = inr tt
lex-total (false ∷ a) (false ∷ b) = lex-total a b

pub lex-trans : (a b c : List Bool) → T (lexb a b) → T (lexb b c) → T (lexb a c)
unfolding lexb
lex-trans [] b c p q = tt
lex-trans (x ∷ a) [] c p q = absurd p
lex-trans (x ∷ a) (y ∷ b) [] p q = absurd q
lex-trans (true ∷ a) (true ∷ b) (true ∷ c) p q = lex-trans a b c p q
lex-trans (true ∷ a) (true ∷ b) (false ∷ c) p q = tt
lex-trans (true ∷ a) (false ∷ b) (true ∷ c) p q = absurd q
lex-trans (true ∷ a) (false ∷ b) (false ∷ c) p q = tt
lex-trans (false ∷ a) (true ∷ b) (z ∷ c) p q = absurd p
lex-trans (false ∷ a) (false ∷ b) (true ∷ c) p q = q
lex-trans (false ∷ a) (false ∷ b) (false ∷ c) p q = lex-trans a b c p q

-- a common beginning does not matter
lex-cancel : (p a b : List Bool) → T (lexb (p ++ a) (p ++ b)) → T (lexb a b)
unfolding lexb
lex-cancel [] a b h = h
lex-cancel (true ∷ p) a b h = lex-cancel p a b h
lex-cancel (false ∷ p) a b h = lex-cancel p a b h

-- the first entry decides where the two differ
lex-head : (x y : Bool) (a b : List Bool) → T x → (T y → ⊥) → T (lexb (y ∷ b) (x ∷ a)) → ⊥
unfolding lexb
lex-head true true a b p q h = q tt
lex-head true false a b p q h = h
lex-head false y a b p q h = p

-- ---- the jobs of one slot

eqb_same : (x y s : ℕ) → ((x ≡ s) ↔ (y ≡ s)) → eqb x s ≡ eqb y s
eqb_same x y s h = bool-ext (eqb x s) (eqb y s) (λ t. (T-eqb y s).1 (h.0 ((T-eqb x s).0 t))) (λ t. (T-eqb x s).1 (h.1 ((T-eqb y s).0 t)))

-- two lists with the same jobs in slot s
row_same : (s : ℕ) (r u : List ℕ) → length r ≡ length u → ((i : ℕ) → i < length r → (at r i ≡ s) ↔ (at u i ≡ s)) → slot_row s r ≡ slot_row s u
unfolding slot_row
row_same s [] [] e h = refl
row_same s [] (y ∷ u) e h = absurd (omega arith)
row_same s (x ∷ r) [] e h = absurd (omega arith)
row_same s (x ∷ r) (y ∷ u) e h = ap₂ (λ (b : Bool) (l : List Bool). b ∷ l) (eqb_same x y s (h 0 (omega arith)))
    (row_same s r u (omega arith) (λ i p. h (suc i) (omega arith)))

-- r has job j in slot s, u lacks it, and below j they agree
row_before : (s : ℕ) (r u : List ℕ) (x y : List Bool) (j : ℕ) → length r ≡ length u → j < length r → ((i : ℕ) → i < j → (at r i ≡ s) ↔ (at u i ≡ s))
    → at r j ≡ s → at u j ≢ s → T (lexb (slot_row s u ++ y) (slot_row s r ++ x)) → ⊥
unfolding slot_row
row_before s [] u x y j e l h p q t = absurd (omega arith)
row_before s (a ∷ r) [] x y j e l h p q t = absurd (omega arith)
row_before s (a ∷ r) (b ∷ u) x y zero e l h p q t = lex-head (eqb a s) (eqb b s) (slot_row s r ++ x) (slot_row s u ++ y) ((T-eqb a s).1 p)
    (λ t. q ((T-eqb b s).0 t)) t
row_before s (a ∷ r) (b ∷ u) x y (suc j) e l h p q t =
    row_before s r u x y j (omega arith) (omega arith) (λ i k. h (suc i) (omega arith)) p q
    (lex-cancel (eqb a s ∷ []) (slot_row s u ++ y) (slot_row s r ++ x) (rw (← (eqb_same a b s (h 0 (omega arith)))) at t))

-- ---- the slots one after the other

-- where r is preferred to u, the rows of u do not come first
pub rows_before : (n : ℕ) (r u : List ℕ) → length r ≡ n → length u ≡ n → (p : Preferred n r u) → (k s : ℕ) → s ≤ p.slot → p.slot < s + k
    → T (lexb (slot_rows k s u) (slot_rows k s r)) → ⊥
unfolding slot_rows
rows_before n r u lr lu p zero s a b t = absurd (omega arith)
rows_before n r u lr lu p (suc k) s a b t = go (ℕ_discrete s p.slot) (λ h. rows_before n r u lr lu p k (suc s) h (omega arith)) t
  where
    go : Dec (s ≡ p.slot) → (suc s ≤ p.slot → T (lexb (slot_rows k (suc s) u) (slot_rows k (suc s) r)) → ⊥)
        → T (lexb (slot_row s u ++ slot_rows k (suc s) u) (slot_row s r ++ slot_rows k (suc s) r)) → ⊥
    go (yes e) f t = row_before p.slot r u (slot_rows k (suc p.slot) r) (slot_rows k (suc p.slot) u) p.job (omega arith) (omega (arith, p.job-in))
        p.lower p.has p.lacks (rw e at t)
    go (no e) f t = f (omega arith)
        (lex-cancel (slot_row s u) (slot_rows k (suc s) u) (slot_rows k (suc s) r)
        (rw (row_same s r u (lr ∙ sym lu) (λ i h. p.before s i (omega arith) (omega arith))) at t))
