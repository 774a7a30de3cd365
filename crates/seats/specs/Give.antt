-- A place that goes to the takers of a giver. Assumes nothing.
use Rattle.std.specs.Prelude.{◌≡◌, ◌⊎◌, ℕ, ◌≤◌, ◌<◌, leb}
use Rattle.std.proofs.Math.Path.{refl, sym, ap}
use Rattle.std.proofs.Common.{◌∙◌, inl, inr, arith}
use mathlib.Core.List.Memᴰ
use mathlib.Core.List.{List, [], ◌∷◌, ◌++◌, Memᴰ}
use Rattle.std.proofs.Math.Decide.{ℕ_discrete}
use Rattle.std.proofs.Math.ListN.{length}
use Rattle.rules.specs.Basics.{choose, at, Distinct}
use Rattle.laws.specs.Tests.{T-leb, by-choice, choose_yes, choose_no}
use Rattle.jobset.specs.declared.Set.{Set}
use Rattle.jobset.specs.Sets.{set_at, with}
use Rattle.seats.specs.Bytes.{same_set}
use Rattle.seats.specs.Words.{with_place, length-place, place_same, place_other}

-- taker k, which enters slot `entry`, gets the place p where the giver's deadline `last` is not before it
unfoldable pub gave : List ℕ → ℕ → ℕ → ℕ → ℕ → List ℕ
gave givers entry k p last = choose (leb entry last) (with_place givers k p) givers

-- so each of these, by their releases
unfoldable pub give_each : List ℕ → ℕ → ℕ → List ℕ → List ℕ → List ℕ
give_each release p last [] givers = givers
give_each release p last (k ∷ ks) givers = give_each release p last ks (gave givers (at release k) k p last)

pub give-append : (release : List ℕ) (p last : ℕ) (ks js givers : List ℕ) → give_each release p last (ks ++ js) givers ≡ give_each release p last js
    (give_each release p last ks givers)
unfolding give_each
give-append release p last [] js givers = refl
give-append release p last (k ∷ ks) js givers = give-append release p last ks js (gave givers (at release k) k p last)

module _ (release : List ℕ) (p last : ℕ) where
  length-gave : (givers : List ℕ) (k : ℕ) → length (gave givers (at release k) k p last) ≡ length givers
  unfolding gave
  length-gave givers k = by-choice (λ (l : List ℕ). length l ≡ length givers) (leb (at release k) last) (λ t. length-place givers k p) (λ n. refl)

  gave-other : (givers : List ℕ) (k j : ℕ) → ¬ (j ≡ k) → at (gave givers (at release k) k p last) j ≡ at givers j
  unfolding gave
  gave-other givers k j n = by-choice (λ (l : List ℕ). at l j ≡ at givers j) (leb (at release k) last) (λ t. place_other givers k p j n) (λ t. refl)

  pub length-give : (ks givers : List ℕ) → length (give_each release p last ks givers) ≡ length givers
  unfolding give_each
  length-give [] givers = refl
  length-give (k ∷ ks) givers = length-give ks (gave givers (at release k) k p last) ∙ length-gave givers k

  -- one that is none of them, and one that enters too late, keeps what it has
  pub give-other : (ks givers : List ℕ) (j : ℕ) → ((k : ℕ) → Memᴰ k ks → ¬ (j ≡ k)) → at (give_each release p last ks givers) j ≡ at givers j
  unfolding give_each
  give-other [] givers j n = refl
  give-other (k ∷ ks) givers j n = give-other ks (gave givers (at release k) k p last) j (λ z m. n z (Memᴰ.tail m)) ∙ gave-other givers k j
      (n k (Memᴰ.head refl))

  pub give-late : (ks givers : List ℕ) (j : ℕ) → last < at release j → at (give_each release p last ks givers) j ≡ at givers j
  unfolding give_each gave
  give-late [] givers j h = refl
  give-late (k ∷ ks) givers j h = give-late ks (gave givers (at release k) k p last) j h ∙ go (ℕ_discrete j k)
    where
      go : Dec (j ≡ k) → at (gave givers (at release k) k p last) j ≡ at givers j
      go (yes e) = ap (λ (l : List ℕ). at l j)
          (choose_no (leb (at release k) last) (with_place givers k p) givers (λ t. omega (arith, (T-leb (at release k) last).0 t, ap (at release) e)))
      go (no e) = gave-other givers k j e

  -- each other gets the place
  pub give-one : (ks givers : List ℕ) (j : ℕ) → Distinct ks → Memᴰ j ks → j < length givers → at release j ≤ last → set_at
      (give_each release p last ks givers) j ≡ with (set_at givers j) p
  unfolding give_each gave
  give-one [] givers j d m l h = absurd (Memᴰ.not-nil m)
  give-one (k ∷ ks) givers j d m l h = go (Memᴰ.cases_cons m) (λ w q. give-one ks (gave givers (at release k) k p last) j d.1 w q h)
    where
      go : (j ≡ k) ⊎ Memᴰ j ks → (Memᴰ j ks → j < length (gave givers (at release k) k p last) → set_at
          (give_each release p last ks (gave givers (at release k) k p last)) j ≡ with (set_at (gave givers (at release k) k p last) j) p)
          → set_at (give_each release p last ks (gave givers (at release k) k p last)) j ≡ with (set_at givers j) p
      go (inl e) f = same_set (give-other ks (gave givers (at release k) k p last) j (λ z w q. d.0 (let g : k ≡ z = sym e ∙ q in rw g w)))
          ∙ ap (λ (x : List ℕ). set_at x j) (choose_yes (leb (at release k) last) (with_place givers k p) givers
          ((T-leb (at release k) last).1 (omega (arith, ap (at release) e))))
          ∙ rw (← e) (place_same givers j p l)
      go (inr w) f = f w (omega (arith, length-gave givers k)) ∙ ap (λ (S : Set). with S p) (same_set (gave-other givers k j (λ e. d.0 (rw (← e) w))))
