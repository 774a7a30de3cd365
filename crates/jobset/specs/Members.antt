-- The list of the members of a set, and what a loop over them needs. Assumes nothing.
use Rattle.std.specs.Prelude.{◌≡◌, refl, Bool, true, false, not, ◌↔◌, ℕ, zero, suc, ◌+◌, ◌^◌, ◌<◌, ◌≤◌}
use Rattle.std.proofs.Common.{sym, ap, ◌∙◌, arith, eqb-true}
use mathlib.Core.List.{List, [], ◌∷◌, Memᴰ}
use Rattle.std.proofs.Math.Decide.{ℕ_discrete}
use Rattle.std.proofs.lemmas.Bool.{not-true, not-false}
use Rattle.rules.specs.Basics.{choose, range, filter}
use Rattle.laws.specs.Tests.{T_true}
use Rattle.laws.specs.Counting.{passing, passing-in}
use Rattle.jobset.specs.declared.Set.{Set}
use Rattle.jobset.specs.Sets.{member, empty, without, is_empty, lowest, members_from, members}
use Rattle.jobset.specs.Membership.{member-empty, without-same, without_other}
use Rattle.jobset.specs.Order.{greater-iff}
use Rattle.jobset.specs.Lowest.{below-lowest, lowest-member}

-- the list has the places below 64 that are members
members-from : (k i : ℕ) (s : Set) → members_from k i s ≡ filter (member s) (range k i)
unfolding members_from filter range
members-from zero i s = refl
members-from (suc k) i s = rw (members-from k (suc i) s)

pub members-passing : (s : Set) → members s ≡ passing (member s) 64
unfolding members
members-passing s = members-from 64 0 s

pub in_members : (s : Set) (j : ℕ) → Memᴰ j (members s) ↔ ((j < 64) × (member s j ≡ true))
in_members s j = rw (members-passing s) (
  λ m. let w = (passing-in (member s) 64 j).0 m in (w.0, (T_true (member s j)).0 w.1),
  λ h. (passing-in (member s) 64 j).1 (h.0, (T_true (member s j)).1 h.1),
)

-- the first of the list is a place
pub first-below : (s : Set) (i : ℕ) (rest : List ℕ) → members s ≡ i ∷ rest → i < 64
first-below s i rest e = ((in_members s i).0 (rw e (Memᴰ.head refl))).0

-- sets with the same members from i up have the same list
same_from : (k i : ℕ) (s t : Set) → ((j : ℕ) → i ≤ j → member s j ≡ member t j) → members_from k i s ≡ members_from k i t
unfolding members_from
same_from zero i s t h = refl
same_from (suc k) i s t h =
    let e = same_from k (suc i) s t (λ j l. h j (omega arith)) in
    let f : member s i ≡ member t i = h i (omega arith) in
    rw (e, f)

-- the empty set has no members
none_from : (k i : ℕ) → members_from k i empty ≡ []
unfolding members_from choose
none_from zero i = refl
none_from (suc k) i = rw (member-empty i) (none_from k (suc i))

pub members-empty : members empty ≡ []
unfolding members
members-empty = none_from 64 0

-- the list begins with the lowest member and goes on with the others
lowest-from : (k i : ℕ) (s : Set) → member s (lowest s) ≡ true → i ≤ lowest s → lowest s < i + k → members_from k i s ≡ lowest s
    ∷ members_from k i (without s (lowest s))
unfolding members_from choose
lowest-from zero i s m a b = absurd (omega arith)
lowest-from (suc k) i s m a b = go (λ x y. lowest-from k (suc i) s m x y) (ℕ_discrete i (lowest s))
  where
    rest : Set
    rest = without s (lowest s)

    go : (suc i ≤ lowest s → lowest s < suc i + k → members_from k (suc i) s ≡ lowest s ∷ members_from k (suc i) rest)
        → Dec (i ≡ lowest s) → choose (member s i) (i ∷ members_from k (suc i) s) (members_from k (suc i) s)
        ≡ lowest s ∷ choose (member rest i) (i ∷ members_from k (suc i) rest) (members_from k (suc i) rest)
    go ih (yes e) =
        let f : member s i ≡ true = ap (member s) e ∙ m in
        let g : member rest i ≡ false = ap (member rest) e ∙ without-same s (lowest s) in
        let h = same_from k (suc i) s rest (λ j l. sym (without_other s (lowest s) j (omega arith))) in
        rw (f, g, h) (ap (λ (n : ℕ). n ∷ members_from k (suc i) rest) e)
    go ih (no n) =
        let f : member s i ≡ false = below-lowest s i (omega arith) in
        let g : member rest i ≡ false = without_other s (lowest s) i n ∙ f in
        rw (f, g) (ih (omega arith) (omega arith))

-- a set without one of its members has a smaller number: the measure of a loop
pub without-less : (s : Set) (i : ℕ) → member s i ≡ true → (without s i).bits < s.bits
without-less s i m = (greater-iff s (without s i)).1 (record {
  place = i;
  is-in = m;
  not_in = without-same s i;
  same_above = λ j l. sym (without_other s i j (omega arith));
})

-- ---- a loop over the members: it takes the lowest out until none is left

-- what is known in a turn that takes the place i out of s
pub record Turn (s : Set) (i : ℕ) : Type 0 where
  pub not-empty : is_empty s ≡ false
  pub rest-is : without s (lowest s) ≡ without s i
  pub below_64 : i < 64
  pub is_member : member s i ≡ true
  pub first : members s ≡ i ∷ members (without s i)
  pub less : (without s i).bits < s.bits

-- a turn, from what the code's test `b = s.is_empty()` and its call `i = s.lowest()` say
pub turn : (s : Set) (b : Bool) (i : ℕ) → s.bits < 2 ^ 64 → b ≡ is_empty s → not b ≡ true → i ≡ lowest s → Turn s i
unfolding members
turn s b i h e n l =
    let o = sym e ∙ not-true b n in
    let m = lowest-member s h o in
    rw (l) (record {
      not-empty = o;
      rest-is = refl;
      below_64 = m.0;
      is_member = m.1;
      first = lowest-from 64 0 s m.1 (omega arith) (omega arith);
      less = without-less s (lowest s) m.1;
    })

-- what is known at the end
pub record End (s : Set) : Type 0 where
  pub is-empty : s ≡ empty
  pub no-members : members s ≡ []

-- the end, from what the code's test says
pub end : (s : Set) (b : Bool) → b ≡ is_empty s → not b ≡ false → End s
unfolding is_empty members
end s b e n =
    let z : s ≡ empty = ap (λ (x : ℕ). record { bits = x }) (eqb-true s.bits 0 (sym e ∙ not-false b n)) in
    record { is-empty = z; no-members = rw (z) (none_from 64 0) }
