-- Needs one behind the other, a pair that comes again left out (document 02, request 6): what is among them, and that no pair stands twice. Assumes nothing.
use Rattle.std.specs.Prelude.{◌≡◌, refl, ◌&&◌, ◌||◌, T}
use Rattle.std.proofs.Common.{inl, arith}
use Rattle.std.proofs.Math.Logic.{⊎_elim}
use Rattle.std.proofs.Math.Bool.{Bool}
use mathlib.Core.List.Memᴰ
use mathlib.Core.List.{List, [], ◌∷◌, ◌++◌, Memᴰ}
use Prim.Native.Nat.{ℕ, suc, ◌≤◌}
use Rattle.std.proofs.Math.ListN.{length, length-append}
use Rattle.std.proofs.Math.Dec.{eqb}
use Rattle.rules.specs.Basics.{Distinct}
use Rattle.rules.specs.Needs.{Need, Gives, givesb, insert_need}
use Rattle.laws.specs.Tests.{T_and, T-or, T-eqb, bool-ext, by-choice, choose_yes, choose_no}
use Rattle.laws.specs.Lists.{any_snoc, snoc-each}
use Rattle.laws.specs.Counting.{distinct_append}
use Rattle.laws.specs.Program.{gives-is}

module _ (needs : List Need) (d : Need) where
  -- the test whether d is among the needs
  abbrev known : Bool
  known = givesb needs d.0 d.1

  -- where it is, they stay as they are
  pub insert-known : Gives needs d.0 d.1 → insert_need needs d ≡ needs
  unfolding insert_need
  insert-known m = choose_yes known needs (needs ++ d ∷ []) ((gives-is needs d.0 d.1).1 m)

  -- where it is not, it stands behind them
  pub insert-new : ¬ (Gives needs d.0 d.1) → insert_need needs d ≡ needs ++ d ∷ []
  unfolding insert_need
  insert-new n = choose_no known needs (needs ++ d ∷ []) (λ t. n ((gives-is needs d.0 d.1).0 t))

  -- those that were there stay
  pub insert-keeps : (g k : ℕ) → Gives needs g k → Gives (insert_need needs d) g k
  unfolding insert_need
  insert-keeps g k m = by-choice (λ (ds : List Need). Gives ds g k) known (λ _. m) (λ _. Memᴰ.append_left (d ∷ []) m)

  -- and d is there
  pub insert-there : Gives (insert_need needs d) d.0 d.1
  unfolding insert_need
  insert-there =
      by-choice (λ (ds : List Need). Gives ds d.0 d.1) known (λ t. (gives-is needs d.0 d.1).0 t) (λ _. Memᴰ.append_right needs (Memᴰ.head refl))

  -- what holds of each of them and of d holds of all
  pub insert-each : (P : Need → Type 0) → ((e : Need) → Memᴰ e needs → P e) → P d → (e : Need) → Memᴰ e (insert_need needs d) → P e
  unfolding insert_need
  insert-each P each here = by-choice (λ (ds : List Need). (e : Need) → Memᴰ e ds → P e) known (λ _. each) (λ _. snoc-each P needs d each here)

  -- no pair stands twice, where none did
  pub insert-distinct : Distinct needs → Distinct (insert_need needs d)
  unfolding insert_need
  insert-distinct once =
      by-choice (λ (ds : List Need). Distinct ds) known (λ _. once) (λ new. distinct_append needs (d ∷ []) once (λ m. Memᴰ.not-nil m, tt) (λ e m last.
      new ((gives-is needs d.0 d.1).1 (⊎_elim (λ (same : e ≡ d). rw same at m) (λ z. absurd (Memᴰ.not-nil z)) (Memᴰ.cases_cons last)))))

  -- there is at most one more
  pub insert-length : length (insert_need needs d) ≤ suc (length needs)
  unfolding insert_need
  insert-length = by-choice (λ (ds : List Need). length ds ≤ suc (length needs)) known (λ _. omega arith) (λ _. omega (arith, length-append needs (d ∷ [])))

  -- the test for a need finds those that were there, and d
  pub insert-gives : (g k : ℕ) → givesb (insert_need needs d) g k ≡ (givesb needs g k || (eqb d.0 g && eqb d.1 k))
  unfolding insert_need givesb
  insert-gives g k =
      by-choice (λ (ds : List Need). givesb ds g k ≡ (givesb needs g k || here)) known (λ t. bool-ext (givesb needs g k) (givesb needs g k || here)
      (λ h. (T-or (givesb needs g k) here).1 (inl h)) (λ h. ⊎_elim (λ u. u) (again t) ((T-or (givesb needs g k) here).0 h)))
      (λ _. any_snoc (λ e. eqb e.0 g && eqb e.1 k) needs d)
    where
      here : Bool
      here = eqb d.0 g && eqb d.1 k

      again : T known → T here → T (givesb needs g k)
      again t h = let w = (T_and (eqb d.0 g) (eqb d.1 k)).0 h in rw (← ((T-eqb d.0 g).0 w.0), ← ((T-eqb d.1 k).0 w.1)) t
