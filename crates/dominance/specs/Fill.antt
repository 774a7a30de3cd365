-- Dominance: a start list is no better than one whose slot s takes no further job. Assumes nothing.
-- More of what holds: proofs/Fill.antt.
use Rattle.std.specs.Prelude.{◌≡◌, ◌⊎◌, ℕ, ◌<◌, length, set}
use mathlib.Core.List.Memᴰ
use mathlib.Core.List.{List, Memᴰ}
use Rattle.rules.specs.Basics.{at}
use Rattle.laws.specs.Preference.{Weak}
use Rattle.dominance.specs.Exchange.{May}

-- slot s of u takes no further job of xs
abbrev pub Full : (ℕ → ℕ → Type 0) → ℕ → List ℕ → List ℕ → Type 0
Full N s xs u = (j : ℕ) → Memᴰ j xs → May N s u j → ⊥

-- job i starts in v when it does in u, or was moved to the earlier slot s
abbrev pub Grown : ℕ → List ℕ → List ℕ → ℕ → Type 0
Grown s u v i = (at v i ≡ at u i) ⊎ ((at v i ≡ s) × (s < at u i))

-- a family of lists, closed under moving a job that may join slot s to it while the slot has room.
-- (Room is where a cap on the jobs of a slot enters: without one a slot always has room)
pub record Closed (n : ℕ) (N : ℕ → ℕ → Type 0) (s : ℕ) (xs : List ℕ) (family Room : List ℕ → Type 0) : Type 0 where
  pub len : (u : List ℕ) → family u → length u ≡ n
  pub in-n : (j : ℕ) → Memᴰ j xs → j < n
  pub move : (u : List ℕ) (x : ℕ) → Memᴰ x xs → family u → Room u → May N s u x → family (set u x s)
  pub room-dec : (u : List ℕ) → Dec (Room u)
  pub may-dec : (u : List ℕ) (x : ℕ) → Dec (May N s u x)

-- u with jobs of xs moved to slot s until it has no room or takes no further one
pub record Filled (n : ℕ) (N : ℕ → ℕ → Type 0) (s : ℕ) (xs : List ℕ) (family Room : List ℕ → Type 0) (u : List ℕ) : Type 0 where
  pub list : List ℕ
  pub good : family list
  pub weak : Weak n list u
  pub grown : (i : ℕ) → Grown s u list i
  pub full : (Room list → ⊥) ⊎ Full N s xs list
