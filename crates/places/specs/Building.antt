-- How the tables of a slot come from those of the slot before: tables that are built so show the windows. Assumes nothing.
use Rattle.std.specs.Prelude.{◌≡◌, refl, ◌↔◌, true, false, ℕ, ◌≤◌, ◌<◌}
use Rattle.std.proofs.Common.{sym, ap, ◌∙◌, ⊎_elim, arith}
use mathlib.Core.List.{List, Memᴰ}
use Rattle.jobset.specs.declared.Set.{Set}
use Rattle.jobset.specs.Sets.{member, minus}
use Rattle.jobset.specs.Membership.{in-minus}
use Rattle.jobset.specs.Tests.{absent, present}
use Rattle.places.specs.Seats.{Apart, On, at_place}
use Rattle.places.specs.Windows.{Windows, held, held_before, in_held, in-held-before, Room, Seats, apart-hold}
use Rattle.places.specs.Tables.{Tables, Due, ShowsDue}

-- the set has the places of just the jobs with Q, whichever slot they are of
abbrev pub Gathers : (ℕ → ℕ) → Set → (ℕ → Type 0) → Type 0
Gathers π S Q = (q : ℕ) → (member S q ≡ true) ↔ ((i : ℕ) × Q i × (π i ≡ q))

-- where all these are of H, and of H just these have P
pub gathered : (π : ℕ → ℕ) (H : List ℕ) (S : Set) (P Q : ℕ → Type 0) → Apart π H → ((i : ℕ) → Q i → Memᴰ i H × P i) → ((i : ℕ) → Memᴰ i H → P i → Q i)
    → Gathers π S Q → On π H S P
gathered π H S P Q ap-H f g h = record {
  to = λ i m e. let w = (h (π i)).0 e in let v = f w.0 w.1 in let z : w.0 ≡ i = ap-H w.0 i v.0 m w.2 in rw z at v.1;
  from = λ i m p. (h (π i)).1 (i, g i m p, refl);
  bound = λ q e. let w = (h q).0 e in (w.0, (f w.0 w.1).0, w.2);
}

module _ (W : Windows) (Z : Seats W) where
  abbrev π : ℕ → ℕ
  π = Z.place

  -- a set of the slot before, without the places that end: of this slot, what was in it
  pub carried_on : (s : ℕ) (S E : Set) (P : ℕ → Type 0) → On Z.place (held_before W s) S P → On Z.place (held_before W s) E (λ i. W.d i ≡ s)
      → On Z.place (held W s) (minus S E) (λ i. Memᴰ i (held_before W s) × P i)
  carried_on s S E P a b = record {
    to = λ i m e. let w = (in-minus S E (π i)).0 e in let v = stays (π i) w.0 w.1 in
        let q : v.0 ≡ i = Z.apart s v.0 i v.1 m v.2 in rw q at v.3;
    from = λ i m p. (in-minus S E (π i)).1 (
      a.from i p.0 p.1,
      absent (member E (π i)) (λ e. let d = b.to i p.0 e in omega (arith, ((in_held W s i).0 m).2)),
    );
    bound = λ p e. let w = (in-minus S E p).0 e in let v = stays p w.0 w.1 in (v.0, v.1, v.2);
  }
    where
      stays : (p : ℕ) → member S p ≡ true → member E p ≡ false → (i : ℕ) × Memᴰ i (held W s) × (π i ≡ p) × (Memᴰ i (held_before W s) × P i)
      stays p u v =
          let w = at_place a p u in
          let z = (in-held-before W s w.0).0 w.1 in
          let n : ¬ (W.d w.0 ≡ s) = λ e. present (member E p) (ap (member E) (sym w.2) ∙ b.from w.0 w.1 e) v in
          (w.0, (in_held W s w.0).1 (z.0, omega (arith, z.1), omega (arith, z.2)), w.2, (w.1, w.3))

  -- where each job has room in a length: its place stands at the lesser of its deadline and of what its tail leaves
  pub due-shows : (C : ℕ) (A : Tables) → Room W C → ((s : ℕ) → s ≤ C → Gathers Z.place (A.due s) (λ i. (i < W.n) × Due W C s i)) → ShowsDue W Z C A
  due-shows C A room g = record {
    due-is = λ s h. gathered π (held_before W s) (A.due s) (Due W C s) (λ i. (i < W.n) × Due W C s i) (apart-hold W Z s)
        (λ i w. let a = room.holds i w.0 in let b = room.behind i w.0 in
        ((in-held-before W s i).1 (w.0, ⊎_elim (λ e. omega arith) (λ e. omega arith) w.1.0, w.1.1), w.1))
        (λ i m d. (((in-held-before W s i).0 m).0, d)) (g s h);
  }
