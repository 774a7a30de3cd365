-- Needs that follow from others, struck: which job reaches which, which lists keep the rules, every window, the width, the best list, its boards, and the
-- answer to question 18 stay (document 02, request 5). Assumes nothing.
-- The definitions are in specs/Struck.antt; here are the theorems that depend on what a must-fail edit breaks.
use Rattle.std.specs.Prelude.{◌≡◌, refl, ◌↔◌, ℕ, zero, suc, T}
use Rattle.std.proofs.Math.Path.{ap}
use Rattle.std.proofs.Common.{◌∙◌, arith}
use mathlib.Core.List.{List}
use Rattle.std.proofs.Math.Option.{Option, some}
use Rattle.rules.specs.Basics.{at}
use Rattle.rules.specs.Needs.{Need, Gives, NeedsIn, Circle}
use Rattle.rules.specs.Program.{slots, Kept}
use Rattle.rules.specs.Preference.{best}
use Rattle.rules.specs.Boards.{sweep, giver_before, Placing, inherit_in, first_fit_in, slot_boards, boards, runsb}
use Rattle.laws.specs.Releases.{nobody}
use Rattle.laws.specs.Caps.{runs-is}
use Rattle.laws.specs.Best.{best-same}
use Rattle.laws.specs.BoardRules.{GiverBefore, nobody, giver, giver-before}
use Rattle.laws.specs.Struck.{Shorter, tight-left, later-all}

-- a sweep by steps that do the same does the same
sweep-same : {A : Type 0} (f g : ℕ → A → A) → ((i : ℕ) (z : A) → f i z ≡ g i z) → (k i : ℕ) (z : A) → sweep f k i z ≡ sweep g k i z
unfolding sweep
sweep-same f g h zero i z = refl
sweep-same f g h (suc k) i z = sweep-same f g h k (suc i) (f i z) ∙ ap (sweep g k (suc i)) (h i z)

module _ {n : ℕ} {es ds : List Need} (needs-in : NeedsIn n es) (free : ¬ (Circle es)) (s : Shorter es ds) where
  -- ---- the same lists

  -- the same starts keep the three sentences
  pub same_kept : (τ : ℕ → ℕ) → Kept (Gives es) τ ↔ Kept (Gives ds) τ
  same_kept τ = (
    λ k. record {
      later = λ g c m. k.later g c (s.within g c m);
      give-one = λ g a b m w. k.give-one g a b (s.within g a m) (s.within g b w);
      take-one = λ a b c m w. k.take-one a b c (s.within a c m) (s.within b c w);
    },
    λ k.
        let later = later-all needs-in free s τ k.later in
        record {
          later = later;
          give-one = λ g a b m w p q. k.give-one g a b (tight-left s τ later g a m (omega arith)) (tight-left s τ later g b w (omega arith)) p q;
          take-one = λ a b c m w p q. k.take-one a b c (tight-left s τ later a c m (omega arith)) (tight-left s τ later b c w (omega arith)) p q;
        },
  )

  -- with any cap, the same lists pass, and the same one is best
  pub same-best : (c L : ℕ) → best n (runsb n ds c) L ≡ best n (runsb n es c) L
  same-best c L = best-same n (runsb n ds c) (runsb n es c) L (λ u f. (passes ds es u (same_kept (at u)).1, passes es ds u (same_kept (at u)).0))
    where
      passes : (needs others : List Need) (u : List ℕ) → (Kept (Gives needs) (at u) → Kept (Gives others) (at u))
          → T (runsb n needs c u) → T (runsb n others c u)
      passes needs others u k t = let r = (runs-is n needs c u).0 t in (runs-is n others c u).1 record { kept = k r.kept; capped = r.capped }

  -- ---- the same boards

  -- a job has the same giver in the slot before
  same-giver : (t : List ℕ) → Kept (Gives es) (at t) → (i : ℕ) → giver_before ds t i ≡ giver_before es t i
  same-giver t k i = go (giver_before ds t i) (giver_before es t i) (giver-before ds t i) (giver-before es t i)
    where
      go : (o p : Option ℕ) → GiverBefore ds t i o → GiverBefore es t i p → o ≡ p
      go _ _ (nobody h) (nobody l) = refl
      go _ _ (nobody h) (giver g a e) = absurd (h g (tight-left s (at t) k.later g i a (omega arith)) e)
      go _ _ (giver g a e) (nobody l) = absurd (l g (s.within g i a) e)
      go _ _ (giver g a e) (giver h b q) = ap some (k.take-one g h i (s.within g i a) b e q)

  -- starts that keep the rules get the same boards
  pub same-boards : (t : List ℕ) → Kept (Gives es) (at t) → boards n ds t ≡ boards n es t
  unfolding boards
  same-boards t k = sweep-same (slot_boards n ds t) (slot_boards n es t) slot (slots t) 0 _
    where
      slot : (r : ℕ) (b : List ℕ) → slot_boards n ds t r b ≡ slot_boards n es t r b
      slot r b = unfold slot_boards in ap (λ (z : Placing). z.1)
          (sweep-same (first_fit_in ds t r) (first_fit_in es t r) (λ i z. unfold first_fit_in in rw (same-giver t k i) refl) n 0 (sweep (inherit_in ds t r) n 0 (_, b))
          ∙ ap (sweep (first_fit_in es t r) n 0)
          (sweep-same (inherit_in ds t r) (inherit_in es t r) (λ i z. unfold inherit_in in rw (same-giver t k i) refl) n 0 (_, b)))
