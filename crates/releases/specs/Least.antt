-- The least makespan that leaves every job a slot. Assumes nothing.
use Rattle.std.specs.Prelude.{◌↔◌, List, ℕ, ◌+◌, ◌≤◌, ◌<◌}
use Rattle.std.proofs.Common.{arith}
use Rattle.rules.specs.Basics.{at, most}
use Rattle.laws.specs.Counting.{most-ge, most-le}

-- the greatest release + tail + 1 of n jobs
unfoldable pub least_of : List ℕ → List ℕ → ℕ → ℕ
least_of releases tails n = most (λ i. at releases i + at tails i + 1) n

-- a makespan leaves every job a slot where it is at least the least
pub least-is : (releases tails : List ℕ) (n C : ℕ) → (least_of releases tails n ≤ C) ↔ ((i : ℕ) → i < n → at releases i + at tails i < C)
unfolding least_of
least-is releases tails n C = (
  λ h i l. omega (arith, most-ge (λ j. at releases j + at tails j + 1) n i l),
  λ h. most-le (λ j. at releases j + at tails j + 1) n C (λ i l. omega (arith, h i l)),
)
