-- The seats of Figure 1 of document 000, and of eight jobs without needs: both are as the placing asks. Assumes nothing.
use Rattle.std.specs.Prelude.{◌≡◌, refl, List, [], ◌∷◌, map, ℕ, replicate, T}
use Rattle.rules.specs.Basics.{choose, imp, all, any, has, range, largest}
use Rattle.rules.specs.Needs.{Need, givesb}
use Rattle.rules.specs.Program.{slots, all₂, keptb}
use Rattle.rules.specs.Boards.{sweep, giver_before, lowest_free, give, inherit, first_fit, inherit_in, first_fit_in, slot_boards, boards}
use Rattle.jobset.specs.Sets.{digit, member}
use Rattle.layout.specs.Layout.{tables_in}
use Rattle.slotboards.specs.Rows.{with_boards, rules_rows}
use Rattle.placed_rows.specs.Seats.{SeatsIn, seat_words, words_from, places_from, rows_from, no_words, no_places, rows_of, SeatsFor}
use Rattle.placed_rows.specs.SeatsLaws.{seatedb, seatsb, seats-by}
use Rattle.placed_rows.specs.declared.Seats.{Seats}

-- the needs of Figure 1, of jobs counted from 0
abbrev pub figure_needs : List Need
figure_needs = (0, 2) ∷ (0, 3) ∷ (0, 4) ∷ (1, 4) ∷ (2, 5) ∷ (3, 5) ∷ (4, 6) ∷ (4, 7) ∷ []

-- its seats
abbrev pub figure_seats : Seats
figure_seats = record {
  slots = 0 ∷ 0 ∷ 1 ∷ 2 ∷ 2 ∷ 3 ∷ 3 ∷ 4 ∷ [];
  places = 0 ∷ 1 ∷ 0 ∷ 0 ∷ 1 ∷ 0 ∷ 1 ∷ 0 ∷ [];
  before = 0 ∷ 0 ∷ 1 ∷ 0 ∷ 0 ∷ 1 ∷ 2 ∷ 0 ∷ [];
}

-- the seats of eight jobs in slot 0
abbrev pub first_seats : Seats
first_seats = record { slots = replicate 8 0; places = 0 ∷ 1 ∷ 2 ∷ 3 ∷ 4 ∷ 5 ∷ 6 ∷ 7 ∷ []; before = replicate 8 0 }

-- both pass the test
pub both-pass : T (seatsb figure_needs figure_seats 5) × T (seatsb [] first_seats 1)
unfolding seatsb seatedb rows_from words_from seat_words places_from no_words no_places tables_in slots largest keptb all₂ all any imp range givesb member digit
both-pass = (tt, tt)

-- the seats of Figure 1 are as the placing asks
pub figure-seats : SeatsIn figure_seats × SeatsFor figure_needs figure_seats 5
figure-seats = seats-by figure_needs figure_seats 5 both-pass.0

-- and so are those of eight jobs in slot 0
pub first-seats : SeatsIn first_seats × SeatsFor [] first_seats 1
first-seats = seats-by [] first_seats 1 both-pass.1

-- the boards that the rules give to eight jobs with seats
abbrev pub ruled_boards : List Need → Seats → List ℕ
ruled_boards needs seats = map (λ r. r.board) (rules_rows needs (rows_of seats)).rows

-- they are those that the program prints
pub both-boards : (ruled_boards figure_needs figure_seats ≡ 1 ∷ 2 ∷ 1 ∷ 1 ∷ 2 ∷ 1 ∷ 2 ∷ 1 ∷ [])
    × (ruled_boards [] first_seats ≡ 1 ∷ 2 ∷ 3 ∷ 4 ∷ 5 ∷ 6 ∷ 7 ∷ 8 ∷ [])
unfolding rules_rows with_boards rows_from boards sweep slot_boards inherit_in first_fit_in giver_before inherit first_fit give lowest_free slots
    largest choose has any
both-boards = (refl, refl)
