-- What one turn and the end of each loop of the placing give. Assumes nothing.
use Rattle.std.specs.Prelude.{◌≡◌, refl, true, false, List, [], ◌∷◌, ℕ, zero, suc, ◌+◌, ◌-◌, ◌≤◌, ◌<◌, max}
use Rattle.std.proofs.Common.{ap, add-one, arith}
use Rattle.rules.specs.Sizes.{max_jobs, max_width}
use Rattle.rules.specs.Basics.{choose, at, most}
use Rattle.laws.specs.Tests.{by-choice}
use Rattle.jobset.specs.declared.Set.{Set}
use Rattle.jobset.specs.Sets.{member, set_at, empty, with, without, is_empty, lowest, members, Subset}
use Rattle.jobset.specs.Membership.{in-intersection}
use Rattle.jobset.specs.Inclusion.{without-subset}
use Rattle.jobset.specs.Members.{Turn}
use Rattle.places.specs.Tables.{Tables}
use Rattle.places.specs.Slot.{near_at}
use Rattle.layout.specs.Layout.{tables_in}
use Rattle.placesets.specs.Listing.{row_from}
use Rattle.slotboards.specs.Placing.{Filling, takes, giver_at, inherit, leave, each, take_row, others_row, place_others, place_slot, place_slots, last_of}
use Rattle.slotboards.specs.Placing.{Below64, HereIn, LastIn, Fits}
use Rattle.slotboards.specs.Left.{lowest-of}
use Rattle.slotboards.specs.Moves.{below_set}

-- ---- the places of a set

pub each_turn : {A : Type 0} (f : ℕ → A → A) (rest : Set) (p : ℕ) (z w : A) → Turn rest p → w ≡ f p z
    → each f (members (without rest p)) w ≡ each f (members rest) z
unfolding each
each_turn f rest p z w t e = rw (t.first, e)

pub each-end : {A : Type 0} (f : ℕ → A → A) (rest : Set) (z : A) → members rest ≡ [] → each f (members rest) z ≡ z
unfolding each
each-end f rest z e = rw e

-- ---- the job at a place

-- without a giver in the slot before
pub inherit-none : (A : Tables) (s : ℕ) (last : Set) (p : ℕ) (z : Filling) (others : Set) → is_empty (near_at A s last p) ≡ true
    → (inherit A s last p z ≡ z) × (leave A s last p others ≡ with others p)
unfolding inherit leave choose
inherit-none A s last p z others e = rw e (refl, refl)

-- and with one
pub inherit-some : (A : Tables) (s : ℕ) (last : Set) (p : ℕ) (z : Filling) (others : Set) → is_empty (near_at A s last p) ≡ false
    → (inherit A s last p z ≡ takes (A.who s p) (at z.boards (giver_at A s last p)) z) × (leave A s last p others ≡ others)
unfolding inherit leave choose
inherit-some A s last p z others e = rw e (refl, refl)

-- where the lowest place of a giver stands
pub giver-in : (words : List ℕ) (s : ℕ) (last : Set) (p : ℕ) → LastIn words s last → is_empty (near_at (tables_in words) s last p) ≡ false
    → (1 ≤ s) × (lowest (near_at (tables_in words) s last p) < max_width) × (giver_at (tables_in words) s last p < max_jobs)
unfolding giver_at
giver-in words s last p h e = h (lowest near) (in-last (lowest near) (lowest-of near (λ q m. let w = h q (in-last q m) in omega (arith, w.1)) e).1)
  where
    near : Set
    near = near_at (tables_in words) s last p

    in-last : (q : ℕ) → member near q ≡ true → member last q ≡ true
    in-last q m = unfold near_at in ((in-intersection ((tables_in words).prev s p) last q).0 m).1

-- boards stay below 64
pub inherit-below : (A : Tables) (s : ℕ) (last : Set) (p : ℕ) (z : Filling) → Below64 z.boards → Below64 (inherit A s last p z).boards
unfolding inherit takes
inherit-below A s last p z f =
    by-choice (λ (w : Filling). Below64 w.boards) (is_empty (near_at A s last p)) (λ _. f)
    (λ _. below_set z.boards (A.who s p) (at z.boards (giver_at A s last p)) (f (giver_at A s last p)) f)

-- fewer places are of the slot too
pub here-less : (words : List ℕ) (s : ℕ) (jobs : Set) (p : ℕ) → HereIn words s jobs → HereIn words s (without jobs p)
unfolding Subset
here-less words s jobs p h q m = h q (without-subset jobs p q m)

-- ---- a row, from its end

pub row-turn : (words : List ℕ) (s : ℕ) (row : List ℕ) (k : ℕ) (z : Filling) → 0 < k → Fits words s (row_from row k) z
    → Fits words s (at row (k - 1) ∷ row_from row (k - 1)) z
unfolding row_from
row-turn words s row zero z l h = absurd (omega arith)
row-turn words s row (suc k) z l h = let e : suc k - 1 ≡ k = omega arith in rw e h

pub each_row : {A : Type 0} (f : ℕ → A → A) (row : List ℕ) (k : ℕ) (z : A) → 0 < k
    → each f (row_from row (k - 1)) (f (at row (k - 1)) z) ≡ each f (row_from row k) z
unfolding row_from each
each_row f row zero z l = absurd (omega arith)
each_row f row (suc k) z l = let e : suc k - 1 ≡ k = omega arith in rw e

pub row-end : {A : Type 0} (f : ℕ → A → A) (row : List ℕ) (z : A) → each f (row_from row 0) z ≡ z
unfolding row_from each
row-end f row z = refl

-- the others, from their row
pub others-row : (A : Tables) (s : ℕ) (others : Set) (z : Filling) (row : List ℕ) (k : ℕ) → row_from row k ≡ others_row A s others
    → take_row A s (row_from row k) z ≡ place_others A s others z
unfolding place_others
others-row A s others z row k e = ap (λ (ps : List ℕ). take_row A s ps z) e

-- ---- the slots

pub slots-none : (A : Tables) (path boards : List ℕ) → place_slots A path 0 boards ≡ boards
unfolding place_slots
slots-none A path boards = refl

pub slots-turn : (A : Tables) (path boards : List ℕ) (s : ℕ)
    → place_slot A s (last_of path s) (set_at path s) (place_slots A path s boards) ≡ place_slots A path (s + 1) boards
unfolding place_slots
slots-turn A path boards s = rw (add-one s)

pub last_none : (path : List ℕ) → last_of path 0 ≡ empty
unfolding last_of
last_none path = refl

pub last_turn : (path : List ℕ) (s : ℕ) → set_at path s ≡ last_of path (s + 1)
unfolding last_of
last_turn path s = rw (add-one s)

-- ---- the largest

pub most-none : (f : ℕ → ℕ) → most f 0 ≡ 0
unfolding most
most-none f = refl

pub most-turn : (f : ℕ → ℕ) (k : ℕ) → max (f k) (most f k) ≡ most f (k + 1)
unfolding most
most-turn f k = rw (add-one k)
