-- What callers see of the order: the rows that are asked for, and jobs behind their givers. Assumes nothing.
use Rattle.std.specs.Prelude.{◌≡◌, Bool, true, ℕ, ◌*◌, ◌≤◌, ◌<◌, length, take}
use mathlib.Core.List.{List, Memᴰ}
use Rattle.rules.specs.Sizes.{max_jobs}
use Rattle.rules.specs.Basics.{at, Distinct}
use Rattle.rules.specs.Needs.{Need, Gives, NeedsIn, circle_free}
use Rattle.rules.specs.Windows.{release}
use Rattle.needrows.specs.Rows.{row_bytes, takers_of, RowsAre}

-- the rows of n jobs are those of some needs between them
pub record OfNeeds (rows : List ℕ) (n : ℕ) : Type 0 where
  pub jobs-few : n ≤ max_jobs
  pub rows_fit : row_bytes * n ≤ length rows
  pub needs : List Need
  pub needs-in : NeedsIn n needs
  pub rows_are : RowsAre rows n needs

-- the first n entries of the order are the n jobs, each once, and the givers of each stand before it
pub record Topological (n : ℕ) (needs : List Need) (order : List ℕ) : Type 0 where
  pub in-jobs : (k : ℕ) → Memᴰ k (take n order) → k < n
  pub all-jobs : (k : ℕ) → k < n → Memᴰ k (take n order)
  pub once : Distinct (take n order)
  pub givers-first : (p g : ℕ) → p < n → Gives needs g (at order p) → Memᴰ g (take p order)

-- the rows and the order of some needs
pub record OrderOf (rows : List ℕ) (n : ℕ) (order : List ℕ) : Type 0 where
  pub of-needs : OfNeeds rows n
  pub sorted : Topological n of-needs.needs order

-- what peeling gives: the answer to question 11, and where it is yes the order and the release of each job
pub record Peeled (n : ℕ) (needs : List Need) (ok : Bool) (order releases : List ℕ) : Type 0 where
  pub answer : ok ≡ circle_free n needs
  pub sorted : ok ≡ true → Topological n needs order
  pub releases-are : ok ≡ true → (i : ℕ) → i < n → at releases i ≡ release n needs i

-- ---- what the functions use of the rows

-- the rows of n jobs, each taker one of them
pub record RowsOf (rows : List ℕ) (n : ℕ) : Type 0 where
  pub jobs-few : n ≤ max_jobs
  pub rows_fit : row_bytes * n ≤ length rows
  pub takers-in : (g k : ℕ) → g < n → Memᴰ k (takers_of rows n g) → k < n

-- g is a giver of k
abbrev pub Giver : List ℕ → ℕ → ℕ → ℕ → Type 0
Giver rows n k g = (g < n) × Memᴰ k (takers_of rows n g)
