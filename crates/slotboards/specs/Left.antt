-- The boards left in a slot as a set, and the lowest member of a set. Assumes nothing.
use Rattle.std.specs.Prelude.{◌≡◌, refl, true, false, ℕ, zero, suc, ◌+◌, ◌≤◌, ◌<◌, T}
use Rattle.std.proofs.Common.{sym, arith, lit<}
use mathlib.Core.List.{Memᴰ, map}
use Rattle.std.proofs.lemmas.List.{length-map}
use Rattle.rules.specs.Sizes.{max_width}
use Rattle.rules.specs.Basics.{all, range}
use Rattle.laws.specs.Tests.{T-all, T_true}
use Rattle.laws.specs.Lists.{map-mem, range-in, range_all, range-rising}
use Rattle.laws.specs.Counting.{pigeonhole, rising-distinct, length-range, range-below}
use Rattle.jobset.specs.declared.Set.{Set}
use Rattle.jobset.specs.Sets.{digit, member, is_empty, lowest}
use Rattle.jobset.specs.Lowest.{lowest-member}
use Rattle.jobset.specs.Tests.{absent, present}
use Rattle.places.specs.Rows.{number-low, bit-low, empty-says}
use Rattle.slotboards.specs.Placing.{all_boards}

-- ---- at first all boards are left

pub all_left : (c : ℕ) → 1 ≤ c → c < 64 → member all_boards c ≡ true
all_left c l h = (T_true (member all_boards c)).0 ((T-all (member all_boards) (range 63 1)).0 every c (range_all 63 1 c l (omega arith)))
  where
    every : T (all (member all_boards) (range 63 1))
    every = unfold all range member digit in tt

-- and no others
pub left-low : (c : ℕ) → member all_boards c ≡ true → (1 ≤ c) × (c < 64)
left-low zero m = absurd (present (member all_boards 0) m (unfold member digit in refl))
left-low (suc c) m = (omega arith, bit-low all_boards 64 (suc c) (lit< tt) m)

-- ---- the lowest member

-- of a set of places below 64 that is not empty
pub lowest-of : (S : Set) → ((q : ℕ) → member S q ≡ true → q < 64) → is_empty S ≡ false → (lowest S < 64) × (member S (lowest S) ≡ true)
lowest-of S low e = lowest-member S (number-low S 64 low) e

-- one of 63 boards is left where those not left are of eight places
pub some_left : (free : Set) (used : ℕ → ℕ) → ((c : ℕ) → 1 ≤ c → c < 64 → member free c ≡ false → (p : ℕ) × (p < max_width) × (used p ≡ c))
    → is_empty free ≡ false
some_left free used taken = absent (is_empty free) (λ e. omega (
  arith,
  length-range 9 1,
  length-range max_width 0,
  length-map (range max_width 0) used,
  pigeonhole (range 9 1) (map used (range max_width 0)) (rising-distinct (range 9 1) (range-rising 9 1)) (λ c m. of-place c (range-in 9 1 c m) e),
))
  where
    of-place : (c : ℕ) → (1 ≤ c) × (c < 1 + 9) → is_empty free ≡ true → Memᴰ c (map used (range max_width 0))
    of-place c h e =
        let w = taken c h.0 (omega arith) (absent (member free c) ((empty-says free).0 e c)) in
        rw (sym w.2) (map-mem used (range max_width 0) w.0 ((range-below max_width w.0).1 w.1))
