-- The path that starts and places make: the set of the places of the jobs of each slot. Assumes nothing.
use Rattle.std.specs.Prelude.{◌≡◌, List, length, set, replicate}
use Rattle.std.proofs.Math.Path.{refl, ap}
use Rattle.std.proofs.Common.{sym, ◌∙◌, inl, inr, ⊎_elim, add-one, arith, get_or-set_same, get_or-set_other}
use Rattle.std.proofs.Math.Bool.{true}
use Prim.Native.Nat.{ℕ, zero, suc, ◌+◌, ◌<◌}
use Rattle.std.proofs.Math.Decide.{ℕ_discrete}
use Rattle.std.proofs.Math.ListN.{length-set, length-replicate}
use Rattle.rules.specs.Sizes.{max_limit, max_width}
use Rattle.rules.specs.Basics.{at}
use Rattle.laws.specs.Lists.{zeros-at}
use Rattle.jobset.specs.declared.Set.{Set}
use Rattle.jobset.specs.Sets.{member, set_at, empty, one, with}
use Rattle.jobset.specs.Membership.{member-empty, in_one, in-union}
use Rattle.jobset.specs.Tests.{present}
use Rattle.places.specs.Rows.{number-low}
use Rattle.slotboards.specs.Rows.{PathIn, path_of}
use Rattle.layout.specs.Layout.{place_sets}

module _ (starts places : List ℕ) where
  pub path-none : path_of starts places 0 ≡ replicate max_limit 0
  unfolding path_of
  path-none = refl

  -- the set of a slot with one more job
  abbrev pub path_more : ℕ → Set
  path_more i = with (set_at (path_of starts places i) (at starts i)) (at places i)

  pub path-turn : (i : ℕ) → set (path_of starts places i) (at starts i) (path_more i).bits ≡ path_of starts places (i + 1)
  unfolding path_of
  path-turn i = rw (add-one i)

  path-size : (n : ℕ) → length (path_of starts places n) ≡ max_limit
  unfolding path_of
  path-size zero = length-replicate {A = ℕ} max_limit 0
  path-size (suc n) = length-set (path_of starts places n) (at starts n) (path_more n).bits ∙ path-size n

  -- the set of slot s with job m, where that is its slot and where it is not
  same-slot : (m s : ℕ) → s < max_limit → s ≡ at starts m → set_at (path_of starts places (suc m)) s ≡ with (set_at (path_of starts places m) s) (at places m)
  unfolding path_of
  same-slot m s l e =
      let v = (with (set_at (path_of starts places m) s) (at places m)).bits in
      rw (sym e) (ap (λ (b : ℕ). record { bits = b }) (get_or-set_same (path_of starts places m) s v 0 (omega (arith, path-size m))))

  other-slot : (m s : ℕ) → (s ≡ at starts m → ⊥) → set_at (path_of starts places (suc m)) s ≡ set_at (path_of starts places m) s
  unfolding path_of
  other-slot m s e = ap (λ (b : ℕ). record { bits = b }) (get_or-set_other (path_of starts places m) (at starts m) s (path_more m).bits 0 e)

  -- each job is in
  pub path-has : (n i : ℕ) → PathIn starts places n → i < n → member (set_at (path_of starts places n) (at starts i)) (at places i) ≡ true
  unfolding with
  path-has zero i h l = absurd (omega arith)
  path-has (suc m) i h l = go (ℕ_discrete i m) (ℕ_discrete (at starts i) (at starts m)) (path-has m i (λ j k. h j (omega arith)))
    where
      go : Dec (i ≡ m) → Dec (at starts i ≡ at starts m) → (i < m → member (set_at (path_of starts places m) (at starts i)) (at places i) ≡ true)
          → member (set_at (path_of starts places (suc m)) (at starts i)) (at places i) ≡ true
      go (yes e) d r =
          rw (e, same-slot m (at starts m) (h m (omega arith)).0 refl)
          ((in-union (set_at (path_of starts places m) (at starts m)) (one (at places m)) (at places m)).1 (inr ((in_one (at places m) (at places m)).1 refl)))
      go (no e) (yes d) r =
          rw (same-slot m (at starts i) (h i l).0 d)
          ((in-union (set_at (path_of starts places m) (at starts i)) (one (at places m)) (at places i)).1 (inl (r (omega arith))))
      go (no e) (no d) r = rw (other-slot m (at starts i) d) (r (omega arith))

  -- job i of the first n starts in slot s, at place p
  abbrev pub JobAt : ℕ → ℕ → ℕ → ℕ → Type 0
  JobAt n s p i = (i < n) × (at starts i ≡ s) × (at places i ≡ p)

  -- and nothing else
  pub path-from : (n s p : ℕ) → PathIn starts places n → member (set_at (path_of starts places n) s) p ≡ true → (i : ℕ) × JobAt n s p i
  unfolding with
  path-from zero s p h m = absurd (present (member empty p) (unfold path_of in rw (zeros-at max_limit s) at m) (member-empty p))
  path-from (suc k) s p h m = go (ℕ_discrete s (at starts k)) (path-from k s p (λ j l. h j (omega arith)))
    where
      more : (i : ℕ) × JobAt k s p i → (i : ℕ) × JobAt (suc k) s p i
      more w = (w.0, (omega (arith, w.1.0), w.1.1, w.1.2))

      go : Dec (s ≡ at starts k) → (member (set_at (path_of starts places k) s) p ≡ true → (i : ℕ) × JobAt k s p i) → (i : ℕ) × JobAt (suc k) s p i
      go (yes e) r = ⊎_elim (λ w. more (r w)) (λ w. (k, (omega arith, sym e, sym ((in_one (at places k) p).0 w))))
          ((in-union (set_at (path_of starts places k) s) (one (at places k)) p).0 (rw (same-slot k s (rw e (h k (omega arith)).0) e) at m))
      go (no e) r = more (r (rw (other-slot k s e) at m))

  -- so each set is a byte
  path-byte : (n s : ℕ) → PathIn starts places n → at (path_of starts places n) s < place_sets
  path-byte n s h = number-low (set_at (path_of starts places n) s) max_width (λ p m. let w = path-from n s p h m in let l = h w.0 w.1.0 in
      omega (arith, w.1.2))

  pub more_byte : (n i : ℕ) → PathIn starts places n → i < n → (path_more i).bits < place_sets
  more_byte n i h l = rw (ap (λ (S : Set). S.bits) (same-slot i (at starts i) (h i l).0 refl)) at (path-byte (suc i) (at starts i) (λ j k. h j (omega arith)))
