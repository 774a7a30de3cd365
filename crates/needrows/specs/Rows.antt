-- The needs as rows of marks, one row for each giver, and the takers of a giver word by word. Assumes nothing.
use Rattle.std.specs.Prelude.{◌≡◌, List, [], ◌++◌, map, ℕ, zero, suc, ◌+◌, ◌-◌, ◌*◌, ◌/◌, ◌%◌, ◌<◌, take, drop}
use Rattle.rules.specs.Sizes.{max_jobs}
use Rattle.rules.specs.Basics.{at}
use Rattle.rules.specs.Needs.{Need, givesb}
use Rattle.jobset.specs.declared.Set.{Set}
use Rattle.jobset.specs.Sets.{members}
use Rattle.bitmap.specs.Marks.{is_marked, cleared}

-- the bytes of a row, its marks, the bytes and the marks of a word
abbrev pub row_bytes : ℕ
row_bytes = 56

abbrev pub row_bits : ℕ
row_bits = 8 * row_bytes

abbrev pub word_bytes : ℕ
word_bytes = 8

abbrev pub word_bits : ℕ
word_bits = 8 * word_bytes

-- the bytes of the rows of the most jobs
abbrev pub rows_size : ℕ
rows_size = row_bytes * max_jobs

-- how many words of a row hold the takers among n jobs
abbrev pub words_for : ℕ → ℕ
words_for n = (n + (word_bits - 1)) / word_bits

-- the rows after that of a job is cleared
unfoldable pub without_row : List ℕ → ℕ → List ℕ
without_row rows job = take (row_bytes * job) rows ++ cleared row_bytes (drop (row_bytes * job) rows)

-- ---- a word

-- byte i, as a number below 256
unfoldable pub byte_at : List ℕ → ℕ → ℕ
byte_at rows i = at rows i % 256

-- the number in two, in four bytes from i on, low byte first
unfoldable pub two_at : List ℕ → ℕ → ℕ
two_at rows i = byte_at rows i + 256 * byte_at rows (i + 1)

unfoldable pub four_at : List ℕ → ℕ → ℕ
four_at rows i = two_at rows i + 65536 * two_at rows (i + 2)

-- the number in eight
unfoldable pub eight_at : List ℕ → ℕ → ℕ
eight_at rows i = four_at rows i + 4294967296 * four_at rows (i + 4)

-- it, as a set
unfoldable pub word_from : List ℕ → ℕ → Set
word_from rows i = record { bits = eight_at rows i }

-- word w of the row of g: its members are the takers from 64 * w on, each counted from there
unfoldable pub word_at : List ℕ → ℕ → ℕ → Set
word_at rows g w = record { bits = eight_at rows (row_bytes * g + word_bytes * w) }

-- ---- the takers

-- those in k words from word w on
unfoldable pub takers_from : List ℕ → ℕ → ℕ → ℕ → List ℕ
takers_from rows g zero w = []
takers_from rows g (suc k) w = map (word_bits * w +◌) (members (word_at rows g w)) ++ takers_from rows g k (suc w)

-- those from word w on, among n jobs
abbrev pub takers_behind : List ℕ → ℕ → ℕ → ℕ → List ℕ
takers_behind rows n g w = takers_from rows g (words_for n - w) w

-- all of them
abbrev pub takers_of : List ℕ → ℕ → ℕ → List ℕ
takers_of rows n g = takers_behind rows n g 0

-- those that are still to come: the members of `here`, numbered from `first`, and those in the words from `next` on, of so many
abbrev pub still_to_come : List ℕ → ℕ → ℕ → ℕ → ℕ → Set → List ℕ
still_to_come rows g words next first here = map (first +◌) (members here) ++ takers_from rows g (words - next) next

-- the same where `here` is left of the word at byte `at` of the row, and the last word is at byte `last`
abbrev pub left_at : List ℕ → ℕ → ℕ → ℕ → Set → List ℕ
left_at rows g last at here = still_to_come rows g (last / word_bytes + 1) (at / word_bytes + 1) (8 * at) here

-- the rows of n jobs have just these needs
abbrev pub RowsAre : List ℕ → ℕ → List Need → Type 0
RowsAre rows n needs = (g k : ℕ) → g < n → k < row_bits → is_marked rows (row_bits * g + k) ≡ givesb needs g k
