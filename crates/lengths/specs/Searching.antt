-- The search over lengths: what it asks and what it gives. Assumes nothing.
use Rattle.std.specs.Prelude.{◌≡◌, true, List, Option, None, Some, ℕ, ◌+◌, ◌≤◌, ◌<◌, length, replicate}
use Rattle.std.proofs.Math.Option.{none, some}
use Rattle.rules.specs.Sizes.{max_jobs, max_width, max_limit}
use Rattle.rules.specs.Basics.{at, tabulate}
use Rattle.rules.specs.Program.{slots}
use Rattle.rules.specs.Boards.{Runs, runsb}
use Rattle.rules.specs.Preference.{best}
use Rattle.jobset.specs.declared.Set.{Set}
use Rattle.jobset.specs.Sets.{member}
use Rattle.dominance.specs.Count.{AtLeast}
use Rattle.places.specs.Windows.{Windows, Room, Leads}
use Rattle.places.specs.Model.{placed}
use Rattle.layout.specs.Layout.{cap_at, tables_in, marks_room}
use Rattle.shortest.specs.Given.{Bounds, Ready}
use Rattle.shortest.specs.Starts.{plan_of, written}
use Rattle.seats.specs.Order.{place_of, HasPlaces, seats_by}
use Rattle.seats.specs.Filled.{Filled}

-- each of the places of slot s is one of eight, with a job that an array by job number has
abbrev pub PlacesIn : List ℕ → ℕ → Set → Type 0
PlacesIn words s places = (p : ℕ) → member places p ≡ true → (p < max_width) × ((tables_in words).who s p < max_jobs)

-- what is asked: windows that bound every list, tables of `filled` slots, place and tail of each job in the arrays, and a length `least` that no
-- list with at most `cap` jobs a slot is below, and that leaves each job room
pub record Search (W : Windows) (cap filled least limit jobs : ℕ) (words places tail : List ℕ) (bytes : ℕ) (path : List ℕ) : Type 0 where
  pub leads : Leads W
  pub bounds : Bounds W limit
  pub count : W.n ≡ jobs
  pub jobs-fit : jobs ≤ max_jobs
  pub rows : Filled W filled words
  pub some : 1 ≤ filled
  pub more : filled ≤ least
  pub limit-pos : 0 < limit
  pub few : limit ≤ max_limit
  pub room : (C : ℕ) → least ≤ C → C ≤ limit → Room W C
  pub in-time : (i : ℕ) → i < jobs → limit ≤ W.d i + W.θ i
  pub places-are : (i : ℕ) → i < jobs → W.r i < W.d i → at places i ≡ place_of W i
  pub tails-are : (i : ℕ) → i < jobs → at tail i ≡ W.θ i
  pub cap-at : at words cap_at ≡ cap
  pub low : AtLeast W.n (Runs W.n W.needs cap) least
  pub bitmap-fits : marks_room ≤ bytes
  pub path-len : length path ≡ max_limit

-- the start list of the plan of C slots; the limit stands for a job without a start
abbrev pub list_found : Windows → ℕ → ℕ → ℕ → List ℕ → List ℕ
list_found W cap limit C words = placed W (place_of W) 0 (plan_of (tables_in words) cap C).sets (replicate W.n limit)

-- a plan of C slots: the tables are ready for it, the path has its sets, and its list is the best one; an array by job number that the sets are
-- written into has its starts
pub record PlanFound (W : Windows) (cap limit C : ℕ) (words path : List ℕ) : Type 0 where
  pub has-places : HasPlaces W
  pub ready : Ready W (seats_by W has-places) C (tables_in words)
  pub in-limit : C ≤ limit
  pub path-len : length path ≡ max_limit
  pub full : length (plan_of (tables_in words) cap C).sets ≡ C
  pub same : (s : ℕ) → s < C → at path s ≡ at (plan_of (tables_in words) cap C).sets s
  pub is-best : best W.n (runsb W.n W.needs cap) limit ≡ some (list_found W cap limit C words)
  pub slots-are : slots (list_found W cap limit C words) ≡ C
  pub starts-are : written (tables_in words) 0 (plan_of (tables_in words) cap C).sets (replicate max_jobs 0)
      ≡ tabulate (at (list_found W cap limit C words)) max_jobs 0

-- the answer: the slots of the best list, none where no list fits the limit
pub record Found (W : Windows) (cap limit : ℕ) (r : Option ℕ) (words path : List ℕ) : Type 0 where
  pub no-list : r ≡ None → best W.n (runsb W.n W.needs cap) limit ≡ none
  pub a-plan : (C : ℕ) → r ≡ Some C → (0 < C) × PlanFound W cap limit C words path
