-- The jobs beyond each job, in rows of marks as the takers are: what the functions that fill them give. Assumes nothing.
use Rattle.std.specs.Prelude.{◌≡◌, ◌⊎◌, ◌↔◌, Bool, ℕ, ◌+◌, ◌*◌, ◌≤◌, ◌<◌, length, T}
use mathlib.Core.List.{List, Memᴰ}
use Rattle.rules.specs.Needs.{Need, NeedsIn}
use Rattle.laws.specs.Implied.{Far}
use Rattle.bitmap.specs.Marks.{is_marked}
use Rattle.needrows.specs.Rows.{row_bytes, row_bits, RowsAre}
use Rattle.releases.specs.Ordered.{RowsOf}

-- these are other jobs than g, of n jobs
abbrev pub Others : ℕ → ℕ → List ℕ → Type 0
Others n g ks = (k : ℕ) → Memᴰ k ks → (k < n) × (k ≡ g → ⊥)

-- the bytes of the rows of n jobs are there
pub record RowsThere (takers : List ℕ) (n : ℕ) (beyond : List ℕ) : Type 0 where
  pub rows_of : RowsOf takers n
  pub room : row_bytes * n ≤ length beyond

-- job j stands in row g
abbrev pub in_row : List ℕ → ℕ → ℕ → Bool
in_row rows g j = is_marked rows (row_bits * g + j)

-- job k leads to job j, which is one of its takers or stands beyond it
abbrev pub Leads : List ℕ → List ℕ → ℕ → ℕ → Type 0
Leads takers beyond k j = T (in_row takers k j) ⊎ T (in_row beyond k j)

-- beyond g comes what the jobs ks lead to, of n jobs; the other rows are as they were
pub record Joined (takers : List ℕ) (n g : ℕ) (ks before after : List ℕ) : Type 0 where
  pub size : length after ≡ length before
  pub others : (h j : ℕ) → (h ≡ g → ⊥) → j < n → in_row after h j ≡ in_row before h j
  pub row : (j : ℕ) → j < n → T (in_row after g j) ↔ (T (in_row before g j) ⊎ ((k : ℕ) × Memᴰ k ks × Leads takers before k j))

-- beyond job g stands just what a chain of two needs or more leads to
abbrev pub Right : ℕ → List Need → List ℕ → ℕ → Type 0
Right n needs beyond g = (k : ℕ) → k < n → T (in_row beyond g k) ↔ Far needs g k

-- so of each job, by the needs that the rows of takers hold
abbrev pub BeyondAre : List ℕ → ℕ → List ℕ → Type 0
BeyondAre takers n beyond = (needs : List Need) → NeedsIn n needs → RowsAre takers n needs → (g : ℕ) → g < n → Right n needs beyond g
