-- Makespans counted up: a search that is best at each of them gives the best start list. Assumes nothing.
use Rattle.std.specs.Prelude.{◌≡◌, ◌↔◌, Bool, length, T}
use Rattle.std.proofs.Math.Logic.{inl, inr}
use mathlib.Core.List.{List}
use Rattle.std.proofs.Math.Option.{Option, none, some}
use Prim.Native.Nat.{ℕ, zero, suc, ◌+◌, ◌≤◌, ◌<◌}
use native.Mathlib.Omega.{arith}
use Rattle.std.proofs.Math.Decide.{dec_lt}
use Rattle.rules.specs.Program.{slots, Fits}
use Rattle.rules.specs.Preference.{best}
use Rattle.laws.specs.Program.{slots-fits, fits-slots}
use Rattle.laws.specs.Preference.{Best}
use Rattle.laws.specs.Best.{NoWorse, BestWithin, BestWithin-unique, best_of}
use Rattle.dominance.specs.Tries.{or_else}

-- run C, run (C + 1), ..: the first of k that gives a list
unfoldable pub count_up : (ℕ → Option (List ℕ)) → ℕ → ℕ → Option (List ℕ)
count_up run zero C = none
count_up run (suc k) C = let r = count_up run k (suc C) in or_else (run C) r

-- every list of n jobs that K holds of has at least C slots
abbrev pub AtLeast : ℕ → (List ℕ → Type 0) → ℕ → Type 0
AtLeast n K C = (u : List ℕ) → K u → length u ≡ n → C ≤ slots u

-- one more, where no such list fits C
pub at-least-next : (n : ℕ) (K : List ℕ → Type 0) (C : ℕ) → AtLeast n K C → ((u : List ℕ) → K u × Fits n C u → ⊥) → AtLeast n K (suc C)
at-least-next n K C low no-list u h l = go (dec_lt C (slots u))
  where
    go : Dec (C < slots u) → suc C ≤ slots u
    go (yes q) = q
    go (no q) = absurd (no-list u (h, slots-fits n C u l (omega arith)))

module _ (n : ℕ) (K : List ℕ → Type 0) (L : ℕ) (L-pos : 0 < L) (run : ℕ → Option (List ℕ)) (run-best : (C : ℕ) → C ≤ L → Best n (λ u. K u × Fits n C u) (run C))
  where
    count-within : (k C : ℕ) → C + k ≡ suc L → 0 < C → AtLeast n K C → BestWithin n L K (count_up run k C)
    unfolding count_up or_else
    count-within zero C e p low = λ u k f. omega (arith, low u k f.len, fits-slots n L u L-pos f)
    count-within (suc k) C e p low = go (run C) (run-best C (omega arith)) (count-within k (suc C) (omega arith) (omega arith))
      where
        go : (o : Option (List ℕ)) → Best n (λ u. K u × Fits n C u) o → (AtLeast n K (suc C) → BestWithin n L K (count_up run k (suc C)))
            → BestWithin n L K (or_else o (count_up run k (suc C)))
        go none b rest = rest (at-least-next n K C low b)
        go (some t) b rest = (
          b.0.0,
          record { len = b.0.1.len; below = λ i h. omega (arith, b.0.1.below i h) },
          λ u h f. no-worse u h f (low u h f.len) (dec_lt (slots t) (slots u)),
        )
          where
            no-worse : (u : List ℕ) → K u → Fits n L u → C ≤ slots u → Dec (slots t < slots u) → NoWorse n t u
            no-worse u h f l (yes q) = inl q
            no-worse u h f l (no q) =
                let t-le : slots t ≤ C = fits-slots n C t p b.0.1 in
                inr (omega arith, b.1 u (h, slots-fits n C u f.len (omega arith)))

    -- the first makespan, from one that no list is below, that has a list, and its best list: the best start list of the rules
    pub count-best : (p : List ℕ → Bool) → ((u : List ℕ) → T (p u) ↔ K u) → (k C : ℕ) → C + k ≡ suc L → 0 < C → AtLeast n K C → count_up run k C ≡ best n p L
    count-best p p-is k C e c low = BestWithin-unique n L K (count_up run k C) (best n p L) (count-within k C e c low) (best_of n p K p-is L)
