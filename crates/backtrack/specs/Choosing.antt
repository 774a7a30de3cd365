-- What a slot tries where its state branches: all that is forced and of the tied places one for each tying giver, or, where that exceeds the
-- cap, so many of all candidates. These are the sets of the model. Assumes nothing.
use borrow.Author.Tests.{ltb-true, ltb-false, le-leb}
use Rattle.std.specs.Prelude.{◌≡◌, ◌⊎◌, Bool, ◌||◌, ℕ, ◌^◌, ◌≤◌, ◌<◌, length}
use Rattle.std.proofs.Math.Path.{refl}
use Rattle.std.proofs.Common.{ap, ◌∙◌, inl, inr}
use Rattle.std.proofs.Math.Bool.{true, false}
use mathlib.Core.List.{List, [], ◌∷◌, map, Memᴰ}
use native.Mathlib.Omega.{arith}
use Rattle.std.proofs.Math.Dec.{ltb}
use Rattle.rules.specs.Sizes.{max_width}
use Rattle.rules.specs.Basics.{choose, range, Distinct}
use Rattle.laws.specs.Counting.{pigeonhole, range-below, length-range}
use Rattle.jobset.specs.declared.Set.{Set}
use Rattle.jobset.specs.Sets.{member, empty, union, size, members}
use Rattle.jobset.specs.Membership.{member-empty, member_union, in-union, set-ext}
use Rattle.threes.specs.Threes.{Eight}
use Rattle.places.specs.Tables.{Tables}
use Rattle.places.specs.Rows.{by_number, row-distinct, tried_below}
use Rattle.places.specs.Slot.{Candidates, carried, candidates_at, near_at, able_of, row_at, fit_of, most_of, tries_at, in-row-at, candidates-held}
use Rattle.places.specs.Fit.{members-distinct, fit-least}
use Rattle.places.proofs.OneSet.{ties-at}
use Rattle.places.proofs.Branching.{tied-alone}
use Rattle.backtrack.specs.declared.Found.{Found}
use Rattle.backtrack.specs.declared.Choice.{Choice}
use Rattle.backtrack.specs.Sorting.{plain, found_at, plain-found}

-- what the slot tries
unfoldable pub choice_of : ℕ → Found → Choice
choice_of cap c =
    choose (ltb cap (fit_of (plain c)))
    (record { forced = empty; among = union c.forced c.tied; count = cap })
    (record { forced = c.forced; among = c.tied; count = size c.tying })

-- its places by job number
unfoldable pub row_of : Tables → ℕ → Set → List ℕ
row_of A s among = by_number (A.who s) (members among)

-- the sets of a choice: each set of the row with what is forced
unfoldable pub sets_of : Tables → ℕ → Set → Choice → List Set
sets_of A s ran c = map (union c.forced) (tried_below (near_at A s ran) (row_of A s c.among) c.count (2 ^ length (row_of A s c.among)))

-- ---- they are the sets that the model tries

-- nothing more in each set
union-empty : (S : Set) → union empty S ≡ S
union-empty S = set-ext (union empty S) S (λ k. member_union empty S k ∙ ap (λ (b : Bool). b || member S k) (member-empty k))

map-empty : (Ss : List Set) → map (union empty) Ss ≡ Ss
map-empty [] = refl
map-empty (S ∷ Ss) = rw (union-empty S, map-empty Ss)

module _ (A : Tables) (cap s : ℕ) (done ran : Set) (low : (p : ℕ) → member ran p ≡ true → p < 64)
    (apart : (p q : ℕ) → member (A.held s) p ≡ true → member (A.held s) q ≡ true → A.who s p ≡ A.who s q → p ≡ q) where
  -- where all that fits is within the cap
  within : (c : Found) → plain c ≡ candidates_at A s done ran → fit_of (plain c) ≤ cap
      → tries_at A cap s done ran
      ≡ map (union c.forced) (tried_below (near_at A s ran) (by_number (A.who s) (members c.tied)) (size c.tying)
      (2 ^ length (by_number (A.who s) (members c.tied))))
  within c e l = rw (← e) at (tied-alone A cap s done ran low apart (rw (← e) l))

  tries-found : (c : Found) → plain c ≡ candidates_at A s done ran → tries_at A cap s done ran ≡ sets_of A s ran (choice_of cap c)
  unfolding tries_at sets_of choice_of row_of row_at able_of most_of choose
  tries-found c e = go (ltb cap (fit_of (plain c))) refl
    where
      go : (b : Bool) → ltb cap (fit_of (plain c)) ≡ b → tries_at A cap s done ran ≡ sets_of A s ran (choice_of cap c)
      go true f = let l = ltb-true cap (fit_of (plain c)) f in rw (← e, f, map-empty, le-leb cap (fit_of (plain c)) (omega arith))
      go false f = rw (f) (within c e (ltb-false cap (fit_of (plain c)) f))

  pub tries-choice : tries_at A cap s done ran ≡ sets_of A s ran (choice_of cap (found_at A s (carried A s done) done ran))
  tries-choice = tries-found (found_at A s (carried A s done) done ran) (plain-found A s done ran)

-- ---- at most eight fit

module _ (A : Tables) (s : ℕ) (done ran : Set) (low : (p : ℕ) → member ran p ≡ true → p < 64) (eight : Eight (A.held s)) where
  abbrev c : Candidates
  c = candidates_at A s done ran

  in-able : (p : ℕ) → (member c.forced p ≡ true) ⊎ (member c.tied p ≡ true) → Memᴰ p (row_at A s c)
  unfolding able_of
  in-able p o = (in-row-at A s c p).1 (omega (arith, eight p (candidates-held A s done ran p o)), (in-union c.forced c.tied p).1 o)

  distinct : Distinct (row_at A s c)
  unfolding row_at
  distinct = row-distinct (A.who s) (members (able_of c)) (members-distinct (able_of c))

  row-few : length (row_at A s c) ≤ max_width
  unfolding able_of
  row-few = rw (length-range max_width 0) at (pigeonhole (row_at A s c) (range max_width 0) distinct
      (λ p m. (range-below max_width p).1 (eight p (candidates-held A s done ran p ((in-union c.forced c.tied p).0 ((in-row-at A s c p).0 m).1)))))

  fit-few : fit_of (candidates_at A s done ran) ≤ max_width
  unfolding fit_of
  fit-few = omega (
    arith,
    row-few,
    fit-least c.forced c.tied c.tying (near_at A s ran) (ties-at A s done ran low) (row_at A s c) distinct
        (λ p m. in-able p (inl m)) (λ k m. let w = (ties-at A s done ran low).taker-of k m in (w.0, in-able w.0 (inr w.1), w.1, w.2)),
  )

  pub found-few : fit_of (plain (found_at A s (carried A s done) done ran)) ≤ max_width
  found-few = rw (plain-found A s done ran) fit-few
