-- The constant table of 256 numbers, and that each entry is the sum of 3 ^ k over the set bits k of its byte. Assumes nothing.
-- Its definitions: specs/Table.antt.
use Rattle.std.specs.Prelude.{◌≡◌, ℕ, ◌<◌, T}
use Rattle.rules.specs.Basics.{at, all, range, choose}
use Rattle.jobset.specs.Sets.{digit, member}
use Rattle.threes.specs.Threes.{threes_to, threes, entry, is_table, table-entry}
use Rattle.threes.specs.Table.{table}

-- one test over the whole table
table-passes : T (is_table (at table))
unfolding is_table table all range threes threes_to choose member digit
table-passes = tt

-- each entry is its sum
pub table_is : (b : ℕ) → b < 256 → at table b ≡ entry b
table_is b l = table-entry (at table) table-passes b l
