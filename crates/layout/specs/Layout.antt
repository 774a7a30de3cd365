-- The tables of places in one array of numbers. Assumes nothing.
use Rattle.std.specs.Prelude.{List, ◌≡◌, ℕ, ◌+◌, ◌*◌, ◌/◌, ◌^◌, ◌<◌}
use Rattle.rules.specs.Basics.{at}
use Rattle.rules.specs.Sizes.{max_limit, max_width}
use Rattle.jobset.specs.Sets.{set_at}
use Rattle.threes.specs.Threes.{entry}
use Rattle.places.specs.Tables.{Tables}

-- the sets of places: each is a byte
abbrev pub place_sets : ℕ
place_sets = 256

-- where each table begins, as the constants of the code say
abbrev pub held_at : ℕ
held_at = 0

abbrev pub ends_at : ℕ
ends_at = held_at + max_limit

abbrev pub due_at : ℕ
due_at = ends_at + (max_limit + 1)

abbrev pub marks_at : ℕ
marks_at = due_at + (max_limit + 1)

abbrev pub prev_at : ℕ
prev_at = marks_at + (max_limit + 1)

abbrev pub who_at : ℕ
who_at = prev_at + max_width * max_limit

abbrev pub slots_at : ℕ
slots_at = who_at + max_width * max_limit

abbrev pub cap_at : ℕ
cap_at = slots_at + 1

abbrev pub three_at : ℕ
three_at = cap_at + 1

-- how many numbers they are
abbrev pub table_words : ℕ
table_words = three_at + place_sets

-- the bytes of the longest row of marks: a mark for each state of so many places
abbrev pub longest_row : ℕ
longest_row = 3 ^ max_width / 8 + 1

-- the bytes of the rows of all slots: a number of two bytes says where each begins
abbrev pub marks_room : ℕ
marks_room = max_limit * longest_row

-- the tables of an array
unfoldable pub tables_in : List ℕ → Tables
tables_in words = record {
  held = λ s. set_at words (held_at + s);
  ends = λ s. set_at words (ends_at + s);
  prev = λ s p. set_at words (prev_at + max_width * s + p);
  who = λ s p. at words (who_at + max_width * s + p);
  due = λ s. set_at words (due_at + s);
}

-- where the row of marks of slot s begins: its first mark
unfoldable pub marks_in : List ℕ → ℕ → ℕ
marks_in words s = 8 * at words (marks_at + s)

-- the base-three number of each byte stands in the array
abbrev pub ThreesIn : List ℕ → Type 0
ThreesIn words = (b : ℕ) → b < place_sets → at words (three_at + b) ≡ entry b
