-- Jobs with seats: the tables, the places and the records that the code makes of them, and what the program gives. Assumes nothing.
use Rattle.std.specs.Prelude.{◌≡◌, List, ℕ, zero, suc, ◌+◌, ◌*◌, set, replicate}
use Rattle.rules.specs.Sizes.{max_width, max_jobs}
use Rattle.rules.specs.Basics.{at}
use Rattle.rules.specs.Needs.{Need}
use Rattle.layout.specs.Layout.{table_words, who_at, prev_at}
use Rattle.slotboards.specs.Rows.{PathIn, Seated, starts_of, rules_rows, RowsSeated}
use Rattle.slotboards.specs.declared.JobRecord.{JobRecord}
use Rattle.placed_rows.specs.declared.Seats.{Seats}

-- ---- what the code makes of seats

-- each of the eight seats is one of eight places of one of 64 slots
abbrev pub SeatsIn : Seats → Type 0
SeatsIn seats = PathIn seats.slots seats.places 8

-- the tables with job i at place p of slot s, with its givers in the slot before
unfoldable pub seat_words : ℕ → ℕ → ℕ → ℕ → List ℕ → List ℕ
seat_words i s p before words = set (set words (who_at + max_width * s + p) i) (prev_at + max_width * s + p) before

-- the tables with the first n jobs at their seats
unfoldable pub words_from : Seats → ℕ → List ℕ → List ℕ
words_from seats zero words = words
words_from seats (suc i) words = seat_words i (at seats.slots i) (at seats.places i) (at seats.before i) (words_from seats i words)

-- the places with those of the first n jobs
unfoldable pub places_from : Seats → ℕ → List ℕ → List ℕ
places_from seats zero places = places
places_from seats (suc i) places = set (places_from seats i places) i (at seats.places i)

-- the record of a job that starts in slot s, without a board
abbrev pub row_of : ℕ → JobRecord
row_of s = record { start = s; board = 0 }

-- eight records, of which the first n have the starts of their jobs
unfoldable pub rows_from : List ℕ → ℕ → List JobRecord
rows_from starts zero = replicate 8 (row_of 0)
rows_from starts (suc i) = set (rows_from starts i) i (row_of (at starts i))

-- the tables before the first seat
unfoldable pub no_words : List ℕ
no_words = replicate table_words 0

-- the places before the first seat
unfoldable pub no_places : List ℕ
no_places = replicate max_jobs 0

-- the records of eight jobs with seats, without boards
abbrev pub rows_of : Seats → List JobRecord
rows_of seats = rows_from seats.slots 8

-- their tables
abbrev pub words_of : Seats → List ℕ
words_of seats = words_from seats 8 no_words

-- their places
abbrev pub places_of : Seats → List ℕ
places_of seats = places_from seats 8 no_places

-- ---- what the program gives

-- for all needs with which the starts and the places are as the placing asks, the records are those of the rules
pub record RowsRuled (rows : List JobRecord) (words places : List ℕ) (count : ℕ) (out : List JobRecord) : Type 0 where
  pub rows_are : (needs : List Need) → Seated needs (starts_of rows) words places count → out ≡ (rules_rows needs rows).rows

-- with these needs the seats are as the placing asks
abbrev pub SeatsFor : List Need → Seats → ℕ → Type 0
SeatsFor needs seats count = Seated needs (starts_of (rows_of seats)) (words_of seats) (places_of seats) count

-- for some needs they are
abbrev pub SeatsRowed : Seats → ℕ → Type 0
SeatsRowed seats count = RowsSeated (rows_of seats) (words_of seats) (places_of seats) count

-- for all such needs the records are those of the rules
abbrev pub SeatsRuled : Seats → ℕ → List JobRecord → Type 0
SeatsRuled seats count out = RowsRuled (rows_of seats) (words_of seats) (places_of seats) count out
