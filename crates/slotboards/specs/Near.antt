-- The givers of a job in the slot before, by places: none, or one that the lowest place has. Assumes nothing.
use Rattle.std.specs.Prelude.{◌≡◌, refl, Bool, true, false, List}
use Rattle.std.proofs.Common.{sym, ◌∙◌}
use Prim.Native.Nat.{ℕ, zero, suc, ◌+◌, ◌-◌, ◌<◌}
use native.Mathlib.Omega.{arith}
use Rattle.rules.specs.Sizes.{max_width}
use Rattle.rules.specs.Basics.{at}
use Rattle.rules.specs.Needs.{Gives}
use Rattle.rules.specs.Program.{slots}
use Rattle.laws.specs.Counting.{at-largest}
use Rattle.laws.specs.BoardWords.{Inherits}
use Rattle.jobset.specs.declared.Set.{Set}
use Rattle.jobset.specs.Sets.{member, set_at, empty, is_empty, lowest}
use Rattle.jobset.specs.Membership.{member-empty, in-intersection}
use Rattle.jobset.specs.Tests.{present}
use Rattle.places.specs.Rows.{empty-says}
use Rattle.places.specs.Slot.{near_at}
use Rattle.layout.specs.Layout.{tables_in}
use Rattle.slotboards.specs.Placing.{giver_at, last_of, Plan, HereIn, LastIn}
use Rattle.slotboards.specs.Left.{lowest-of}

-- the givers of the job at place p of slot s that run in the slot before
abbrev pub near_to : List ℕ → List ℕ → ℕ → ℕ → Set
near_to words path s p = near_at (tables_in words) s (last_of path s) p

module _ {n : ℕ} {words path : List ℕ} {count : ℕ} (P : Plan n words path count) where
  open P use {needs, able}

  -- the start list
  abbrev pub t : List ℕ
  t = P.starts

  -- each job starts in one of the slots
  pub in-slots : (i : ℕ) → i < n → at t i < count
  unfolding slots
  in-slots i l = omega (arith, at-largest t i (omega (arith, able.len)), able.slots-are)

  -- the place of a job in its slot
  pub job-place : (i s : ℕ) → i < n → at t i ≡ s → (p : ℕ) × (member (set_at path s) p ≡ true) × ((tables_in words).who s p ≡ i)
  job-place i s l e = rw e at (able.of-job i l)

  -- the places of a slot, and those of the slot before it
  pub here_in : (s : ℕ) → s < count → HereIn words s (set_at path s)
  here_in s l p m = let w = able.at_place s p l m in let few = able.few in (w.0, omega arith)

  pub last-in : (s : ℕ) → s < count → LastIn words s (last_of path s)
  unfolding last_of
  last-in zero l q m = absurd (present (member empty q) m (member-empty q))
  last-in (suc s) l q m =
      let w = able.at_place s q (omega arith) m in
      let few = able.few in
      let e : suc s - 1 ≡ s = omega arith in
      (omega arith, w.0, rw e (omega arith))

  -- each of these places has a giver
  near-gives : (s p q : ℕ) → s < count → member (set_at path s) p ≡ true → member (near_to words path s p) q ≡ true
      → (q < max_width) × Gives needs ((tables_in words).who (s - 1) q) ((tables_in words).who s p) × (at t ((tables_in words).who (s - 1) q) + 1 ≡ s)
  unfolding near_at last_of
  near-gives zero p q l m k = absurd (present (member empty q) ((in-intersection ((tables_in words).prev 0 p) empty q).0 k).1 (member-empty q))
  near-gives (suc s) p q l m k =
      let w = (in-intersection ((tables_in words).prev (suc s) p) (set_at path s) q).0 k in
      let v = able.at_place s q (omega arith) w.1 in
      let e : suc s - 1 ≡ s = omega arith in
      rw e (v.0, (able.givers s p q l m w.1).0 w.0, omega (arith, v.2))

  -- and each such giver has one of these places
  gives-near : (s p g : ℕ) → s < count → member (set_at path s) p ≡ true → Gives needs g ((tables_in words).who s p) → at t g + 1 ≡ s
      → (q : ℕ) × (member (near_to words path s p) q ≡ true)
  unfolding near_at last_of
  gives-near zero p g l m a e = absurd (omega arith)
  gives-near (suc s) p g l m a e =
      let w = job-place g s (able.needs-in g ((tables_in words).who (suc s) p) a).0 (omega arith) in
      (w.0, (in-intersection ((tables_in words).prev (suc s) p) (set_at path s) w.0).1 ((able.givers s p w.0 l m w.1).1 (rw w.2 a), w.1))

  module _ (s p : ℕ) (l : s < count) (m : member (set_at path s) p ≡ true) where
    -- without such a place the job takes no giver's board
    pub no-giver : is_empty (near_to words path s p) ≡ true → ¬ Inherits needs t ((tables_in words).who s p)
    no-giver e w =
        let k = gives-near s p w.0 l m w.1 (w.2 ∙ (able.at_place s p l m).2) in
        (empty-says (near_to words path s p)).0 e k.0 k.1

    -- with one it has the giver that the lowest of them has, in the slot before
    pub a-giver : is_empty (near_to words path s p) ≡ false
        → Gives needs (giver_at (tables_in words) s (last_of path s) p) ((tables_in words).who s p)
        × (at t (giver_at (tables_in words) s (last_of path s) p) + 1 ≡ s)
    unfolding giver_at
    a-giver e =
        let k = lowest-of (near_to words path s p) (λ q k. let w = near-gives s p q l m k in omega (arith, w.0)) e in
        let w = near-gives s p (lowest (near_to words path s p)) l m k.1 in
        (w.1, w.2)

    pub inherits-so : is_empty (near_to words path s p) ≡ false → Inherits needs t ((tables_in words).who s p)
    inherits-so e = let w = a-giver e in (giver_at (tables_in words) s (last_of path s) p, w.0, w.1 ∙ sym (able.at_place s p l m).2)

    pub inherits-not : ¬ Inherits needs t ((tables_in words).who s p) → is_empty (near_to words path s p) ≡ true
    inherits-not k = go (is_empty (near_to words path s p)) refl
      where
        go : (b : Bool) → is_empty (near_to words path s p) ≡ b → b ≡ true
        go true e = refl
        go false e = absurd (k (inherits-so e))
