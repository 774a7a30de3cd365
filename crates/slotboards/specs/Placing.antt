-- The placing of jobs on boards by the places of each slot, as the code does it, and what is given about its arrays.
-- Boards count from 1; in a set of boards, board c is the member c. Assumes nothing.
use Rattle.std.specs.Prelude.{◌≡◌, ◌↔◌, true, false, List, [], ◌∷◌, ℕ, zero, suc, ◌-◌, ◌≤◌, ◌<◌, length, set, replicate}
use Rattle.rules.specs.Sizes.{max_jobs, max_limit, max_width}
use Rattle.rules.specs.Basics.{choose, at, largest}
use Rattle.rules.specs.Needs.{Need, Gives, NeedsIn}
use Rattle.rules.specs.Program.{slots, Kept}
use Rattle.rules.specs.Boards.{boards}
use Rattle.jobset.specs.declared.Set.{Set}
use Rattle.jobset.specs.Sets.{member, set_at, empty, with, without, is_empty, lowest, members}
use Rattle.places.specs.Tables.{Tables}
use Rattle.places.specs.Rows.{by_number}
use Rattle.places.specs.Slot.{near_at}
use Rattle.layout.specs.Layout.{tables_in}

-- ---- within a slot

-- the boards 1 to 63
abbrev pub all_boards : Set
all_boards = record { bits = 18446744073709551614 }

-- the boards left, and the board of each job
pub record Filling : Type 0 where
  pub free : Set
  pub boards : List ℕ

-- a set of boards left, and the array beside it
abbrev pub filling : Set → List ℕ → Filling
filling free boards = record { free = free; boards = boards }

-- job x takes the board c
unfoldable pub takes : ℕ → ℕ → Filling → Filling
takes x c z = record { free = without z.free c; boards = set z.boards x c }

-- the lowest place of the slot before s whose job gives to the job at place p: its job
unfoldable pub giver_at : Tables → ℕ → Set → ℕ → ℕ
giver_at A s last p = A.who (s - 1) (lowest (near_at A s last p))

-- the job at place p takes the board of its giver in the slot before, if it has one; `last` has the jobs of the slot before
unfoldable pub inherit : Tables → ℕ → Set → ℕ → Filling → Filling
inherit A s last p z = choose (is_empty (near_at A s last p)) z (takes (A.who s p) (at z.boards (giver_at A s last p)) z)

-- without one it is left to the others
unfoldable pub leave : Tables → ℕ → Set → ℕ → Set → Set
leave A s last p others = choose (is_empty (near_at A s last p)) (with others p) others

-- the job at place p takes the lowest board left
unfoldable pub take_lowest : Tables → ℕ → ℕ → Filling → Filling
take_lowest A s p z = takes (A.who s p) (lowest z.free) z

-- f of each of the places, one after the other
unfoldable pub each : {A : Type 0} → (ℕ → A → A) → List ℕ → A → A
each f [] z = z
each f (p ∷ ps) z = each f ps (f p z)

-- first the jobs with a giver in the slot before: `jobs` has the places of the slot's jobs
unfoldable pub inherited : Tables → ℕ → Set → Set → List ℕ → Filling
inherited A s last jobs boards = each (inherit A s last) (members jobs) (filling all_boards boards)

-- the places of the others
unfoldable pub others_of : Tables → ℕ → Set → Set → Set
others_of A s last jobs = each (leave A s last) (members jobs) empty

-- the boards when the jobs at the places of a row have taken the lowest boards left, one after the other
abbrev pub take_row : Tables → ℕ → List ℕ → Filling → List ℕ
take_row A s row z = (each (take_lowest A s) row z).boards

-- the others by rising number
abbrev pub others_row : Tables → ℕ → Set → List ℕ
others_row A s others = by_number (A.who s) (members others)

-- then the others, in rising number
unfoldable pub place_others : Tables → ℕ → Set → Filling → List ℕ
place_others A s others z = take_row A s (others_row A s others) z

-- the whole slot
unfoldable pub place_slot : Tables → ℕ → Set → Set → List ℕ → List ℕ
place_slot A s last jobs boards = place_others A s (others_of A s last jobs) (inherited A s last jobs boards)

-- ---- slot by slot

-- the places of the jobs of the slot before s
unfoldable pub last_of : List ℕ → ℕ → Set
last_of path zero = empty
last_of path (suc s) = set_at path s

-- the first s slots
unfoldable pub place_slots : Tables → List ℕ → ℕ → List ℕ → List ℕ
place_slots A path zero boards = boards
place_slots A path (suc s) boards = place_slot A s (last_of path s) (set_at path s) (place_slots A path s boards)

-- a 0 for each job: none has a board yet
unfoldable pub blank : List ℕ
blank = replicate max_jobs 0

-- ---- what is given about the arrays

-- n jobs with these needs start as t says, in so many slots, and keep the rules; the set of slot s in the path has the places of its jobs,
-- and the tables have at these places the jobs and their givers in the slot before
pub record Placeable (n : ℕ) (needs : List Need) (t words path : List ℕ) (count : ℕ) : Type 0 where
  pub few : n ≤ max_jobs
  pub slots-few : count ≤ max_limit
  pub slots-are : slots t ≡ count
  pub len : length t ≡ n
  pub needs-in : NeedsIn n needs
  pub kept : Kept (Gives needs) (at t)
  pub at_place : (s p : ℕ) → s < count → member (set_at path s) p ≡ true → (p < max_width) × ((tables_in words).who s p < n)
      × (at t ((tables_in words).who s p) ≡ s)
  pub of-job : (i : ℕ) → i < n → (p : ℕ) × (member (set_at path (at t i)) p ≡ true) × ((tables_in words).who (at t i) p ≡ i)
  pub apart : (s p q : ℕ) → s < count → member (set_at path s) p ≡ true → member (set_at path s) q ≡ true
      → (tables_in words).who s p ≡ (tables_in words).who s q → p ≡ q
  pub givers : (s p q : ℕ) → suc s < count → member (set_at path (suc s)) p ≡ true → member (set_at path s) q ≡ true
      → (member ((tables_in words).prev (suc s) p) q ≡ true) ↔ Gives needs ((tables_in words).who s q) ((tables_in words).who (suc s) p)

-- so it is for some needs and starts
pub record Plan (n : ℕ) (words path : List ℕ) (count : ℕ) : Type 0 where
  pub needs : List Need
  pub starts : List ℕ
  pub able : Placeable n needs starts words path count

-- the largest board, and the boards of the first n jobs with zeros behind them, are those of the rules
pub record Boarded (n : ℕ) (words path : List ℕ) (count : ℕ) (most : ℕ) (out : List ℕ) : Type 0 where
  pub count-is : (needs : List Need) (t : List ℕ) → Placeable n needs t words path count → most ≡ largest (boards n needs t)
  pub board-is : (needs : List Need) (t : List ℕ) → Placeable n needs t words path count → (i : ℕ) → at out i ≡ at (boards n needs t) i

-- ---- what the functions require

-- each entry is a board below 64, or 0
abbrev pub Below64 : List ℕ → Type 0
Below64 boards = (x : ℕ) → at boards x < 64

-- the places are of slot s, of jobs that the boards' array has
abbrev pub HereIn : List ℕ → ℕ → Set → Type 0
HereIn words s jobs = (p : ℕ) → member jobs p ≡ true → (p < max_width) × ((tables_in words).who s p < max_jobs)

-- the places are of the slot before s
abbrev pub LastIn : List ℕ → ℕ → Set → Type 0
LastIn words s last = (q : ℕ) → member last q ≡ true → (1 ≤ s) × (q < max_width) × ((tables_in words).who (s - 1) q < max_jobs)

-- each of the places finds a board left
abbrev pub Fits : List ℕ → ℕ → List ℕ → Filling → Type 0
Fits words s [] z = Unit {0}
Fits words s (p ∷ ps) z =
    (p < max_width) × ((tables_in words).who s p < max_jobs) × (is_empty z.free ≡ false) × (lowest z.free < 64)
    × Fits words s ps (take_lowest (tables_in words) s p z)
