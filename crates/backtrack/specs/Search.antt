-- The search of the tables of an array: what is asked of them and of a state, and what each function of the search gives, by the model of crate
-- places. Assumes nothing.
use Rattle.std.specs.Prelude.{◌≡◌, Bool, true, ◌&&◌, ℕ, ◌+◌, ◌-◌, ◌*◌, ◌≤◌, ◌<◌, length, set}
use mathlib.Core.List.{List, [], ◌∷◌, Memᴰ}
use Rattle.rules.specs.Sizes.{max_limit}
use Rattle.rules.specs.Basics.{choose, Distinct}
use Rattle.jobset.specs.declared.Set.{Set}
use Rattle.jobset.specs.Sets.{member, union, minus, is_subset, Subset}
use Rattle.places.specs.Rows.{chosen, places_of, is_try}
use Rattle.places.specs.Slot.{carried, near_at, tries_at}
use Rattle.places.specs.Model.{no_plan}
use Rattle.places.specs.Memo.{Explored, at_once, hit, explore_all, explored, Rows, Reached}
use Rattle.layout.specs.Layout.{tables_in, marks_in, ThreesIn}
use Rattle.backtrack.specs.declared.Choice.{Choice}
use Rattle.backtrack.specs.Entries.{slots_in, cap_in}
use Rattle.backtrack.specs.Choosing.{sets_of}

-- ---- what is asked

-- tables that can be searched with a bitmap of so many bytes: rows of marks that fit, the base-three numbers, and in each slot places with
-- different jobs
pub record Searchable (words : List ℕ) (bytes : ℕ) : Type 0 where
  pub few : slots_in words ≤ max_limit
  pub rows : Rows (tables_in words) (marks_in words) (slots_in words)
  pub room : marks_in words (slots_in words) ≤ 8 * bytes
  pub threes : ThreesIn words
  pub apart : (s p q : ℕ) → s < slots_in words → member ((tables_in words).held s) p ≡ true → member ((tables_in words).held s) q ≡ true
      → (tables_in words).who s p ≡ (tables_in words).who s q → p ≡ q

-- a state before a slot that is searched
pub record Opened (words : List ℕ) (bytes s : ℕ) (done ran : Set) : Type 0 where
  pub can : Searchable words bytes
  pub below : s < slots_in words
  pub reached : Reached (tables_in words) (slots_in words) (slots_in words - s) s done ran

-- a slot that is searched, `here` of its places being done before it
pub record InSlot (words : List ℕ) (bytes s : ℕ) (here : Set) : Type 0 where
  pub can : Searchable words bytes
  pub below : s < slots_in words
  pub inside : Subset here ((tables_in words).held s)

-- what is forced, and places to go with it: different places of the slot, as many as the choice says
pub record Takes (held : Set) (c : Choice) (ps : List ℕ) : Type 0 where
  pub forced-held : Subset c.forced held
  pub places-held : (p : ℕ) → Memᴰ p ps → member held p ≡ true
  pub distinct : Distinct ps
  pub many : length ps ≡ c.count

-- ---- what is given

-- the sets written over a list from a slot on
unfoldable pub written : ℕ → List ℕ → List ℕ → List ℕ
written slot [] path = path
written slot (x ∷ xs) path = set (written (slot + 1) xs path) slot x

-- the answer, the path and the bitmap are those of e
pub record Told (slot : ℕ) (e : Explored) (before : List ℕ) (answer : Bool) (path dead : List ℕ) : Type 0 where
  pub found : answer ≡ e.plan.ok
  pub path-is : path ≡ written slot e.plan.sets before
  pub dead-is : dead ≡ e.dead

-- the search from slot s on
unfoldable pub explored_in : List ℕ → ℕ → Set → Set → List ℕ → Explored
explored_in words s done ran dead = explored (tables_in words) (marks_in words) (tries_at (tables_in words) (cap_in words)) (slots_in words - s) s done ran dead

-- what follows slot s with the set S, `here` being done before it
unfoldable pub after : List ℕ → ℕ → Set → Set → List ℕ → Explored
after words s here S dead = explored_in words (s + 1) (union here S) S dead

-- what must run in slot s: what is due after it and not done
abbrev pub must_at : List ℕ → ℕ → Set → Set
must_at words s here = minus ((tables_in words).due (s + 1)) here

-- one try, `goes` being what follows each set
unfoldable pub attempt : (Set → List ℕ → Explored) → Set → List ℕ → Explored
attempt goes S dead = choose (goes S dead).plan.ok (hit S (goes S dead)) (at_once no_plan (goes S dead).dead)

abbrev pub attempted : List ℕ → ℕ → Set → Set → List ℕ → Explored
attempted words s here S dead = attempt (after words s here) S dead

-- a try of the places ps of a row with what is forced, where the slot may have them and they have what must run
unfoldable pub places_try : (Set → List ℕ → Explored) → (ℕ → Set) → Set → Choice → List ℕ → List ℕ → Explored
places_try goes near must c ps dead =
    let S = union c.forced (places_of ps) in
    choose (is_try near c.count ps && is_subset must S) (attempt goes S dead) (at_once no_plan dead)

abbrev pub numbered : List ℕ → ℕ → Set → Set → Choice → List ℕ → Set → List ℕ → Explored
numbered words s here ran c row number dead =
    places_try (after words s here) (near_at (tables_in words) s ran) (must_at words s here) c (chosen row number) dead

-- all tries of a choice
unfoldable pub choice_tries : List ℕ → ℕ → Set → Set → Choice → List ℕ → Explored
choice_tries words s here ran c dead = explore_all (after words s here) (sets_of (tables_in words) s ran c) dead

-- all tries of a state
unfoldable pub slot_tries : List ℕ → ℕ → Set → Set → List ℕ → Explored
slot_tries words s done ran dead = explore_all (after words s (carried (tables_in words) s done)) (tries_at (tables_in words) (cap_in words) s done ran) dead
