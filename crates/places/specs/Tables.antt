-- The tables of places: what each is, and that the sets defined here are it. Places of the slot before: done, ran, prev, ends, due of slot
-- s; places of the slot itself: held, who. Assumes nothing.
use Rattle.std.specs.Prelude.{◌≡◌, refl, ◌⊎◌, ℕ, ◌+◌, ◌≤◌, ◌<◌, T, eqb}
use Rattle.std.proofs.Common.{inl, inr}
use mathlib.Core.List.Memᴰ
use mathlib.Core.List.{List, [], ◌∷◌, Memᴰ}
use Rattle.rules.specs.Basics.{choose}
use Rattle.rules.specs.Needs.{Gives}
use Rattle.laws.specs.Tests.{T-eqb, by-choice}
use Rattle.jobset.specs.declared.Set.{Set}
use Rattle.places.specs.Seats.{Apart, On}
use Rattle.places.specs.Windows.{Windows, held, held_before, Seats}

-- `held s`: the places of slot s
-- `ends s`: the places of the slot before s whose windows end with it
-- `prev s p`: the places of the slot before s whose jobs give to the job at place p of slot s
-- `who s p`: the job at place p of slot s
-- `due s`: the places of the slot before s whose jobs must be done before s, and need not before s - 1
pub record Tables : Type 0 where
  pub held : ℕ → Set
  pub ends : ℕ → Set
  pub prev : ℕ → ℕ → Set
  pub who : ℕ → ℕ → ℕ
  pub due : ℕ → Set

-- in a search of C slots job i must be done before slot s, its deadline or that of its tail, and need not earlier
abbrev pub Due : Windows → ℕ → ℕ → ℕ → Type 0
Due W C s i = ((W.d i ≡ s) ⊎ (s + W.θ i ≡ C)) × (s ≤ W.d i) × (s + W.θ i ≤ C)

-- ---- what the search asks of tables

pub record Shows (W : Windows) (Z : Seats W) (limit : ℕ) (A : Tables) : Type 0 where
  pub held-is : (s : ℕ) → s < limit → On Z.place (held W s) (A.held s) (λ i. Unit {0})
  pub ends_is : (s : ℕ) → s < limit → On Z.place (held_before W s) (A.ends s) (λ i. W.d i ≡ s)
  pub prev-is : (s i : ℕ) → s < limit → Memᴰ i (held W s) → On Z.place (held_before W s) (A.prev s (Z.place i)) (λ g. Gives W.needs g i)
  pub who-is : (s i : ℕ) → s < limit → Memᴰ i (held W s) → A.who s (Z.place i) ≡ i

-- and of `due`, in a search of C slots: a table is made for one C alone
pub record ShowsDue (W : Windows) (Z : Seats W) (C : ℕ) (A : Tables) : Type 0 where
  pub due-is : (s : ℕ) → s ≤ C → On Z.place (held_before W s) (A.due s) (Due W C s)

-- ---- tables by their definitions

-- the first job of a list at place p, 0 where there is none
unfoldable pub job_at : (ℕ → ℕ) → List ℕ → ℕ → ℕ
job_at π [] p = 0
job_at π (i ∷ H) p = let rest = job_at π H p in choose (eqb (π i) p) i rest

pub job-at : (π : ℕ → ℕ) (H : List ℕ) → Apart π H → (i : ℕ) → Memᴰ i H → job_at π H (π i) ≡ i
unfolding job_at
job-at π [] a i m = absurd (Memᴰ.not-nil m)
job-at π (x ∷ H) a i m = by-choice (λ j. j ≡ i) (eqb (π x) (π i))
    (λ t. a x i (Memᴰ.head refl) m ((T-eqb (π x) (π i)).0 t))
    (λ n. rest n (Memᴰ.cases_cons m) (job-at π H (λ j k p q. a j k (Memᴰ.tail p) (Memᴰ.tail q)) i))
  where
    rest : (T (eqb (π x) (π i)) → ⊥) → (i ≡ x) ⊎ Memᴰ i H → (Memᴰ i H → job_at π H (π i) ≡ i) → job_at π H (π i) ≡ i
    rest n (inl e) f = absurd (n ((T-eqb (π x) (π i)).1 (rw e refl)))
    rest n (inr k) f = f k
