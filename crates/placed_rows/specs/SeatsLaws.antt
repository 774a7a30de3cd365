-- Laws of seats: one job more, and a test that seats are as the placing asks. Assumes nothing.
use Rattle.std.specs.Prelude.{◌≡◌, Bool, ◌&&◌, List, ℕ, ◌+◌, length, set, T, leb, ltb, eqb}
use Rattle.std.proofs.Common.{add-one}
use Rattle.rules.specs.Sizes.{max_limit, max_width, max_jobs}
use Rattle.rules.specs.Basics.{at, imp, all, range}
use Rattle.rules.specs.Needs.{Need, givesb}
use Rattle.rules.specs.Program.{slots, keptb}
use Rattle.laws.specs.Tests.{tests, T_true}
use Rattle.laws.specs.Counting.{range-below}
use Rattle.laws.specs.Program.{gives-is, kept-is}
use Rattle.jobset.specs.Sets.{member}
use Rattle.layout.specs.Layout.{tables_in}
use Rattle.slotboards.specs.Rows.{Seated, starts_of}
use Rattle.placed_rows.specs.declared.Seats.{Seats}
use Rattle.placed_rows.specs.Seats.{SeatsIn, seat_words, words_from, places_from, row_of, rows_from, rows_of, words_of, places_of, SeatsFor}

-- ---- one job more

module _ (seats : Seats) (i : ℕ) where
  -- in the tables
  pub words-turn : (words : List ℕ)
      → seat_words i (at seats.slots i) (at seats.places i) (at seats.before i) (words_from seats i words) ≡ words_from seats (i + 1) words
  unfolding words_from
  words-turn words = rw (add-one i)

  -- in the places
  pub places-turn : (places : List ℕ) → set (places_from seats i places) i (at seats.places i) ≡ places_from seats (i + 1) places
  unfolding places_from
  places-turn places = rw (add-one i)

-- in the records
pub rows-turn : (starts : List ℕ) (i : ℕ) → set (rows_from starts i) i (row_of (at starts i)) ≡ rows_from starts (i + 1)
unfolding rows_from
rows-turn starts i = rw (add-one i)

-- ---- the test

-- job i has a place below 8, where the tables have it
abbrev pub satb : List ℕ → List ℕ → List ℕ → ℕ → Bool
satb t words places i = ltb (at places i) max_width && eqb ((tables_in words).who (at t i) (at places i)) i

-- where g starts in the slot before i, the tables have its place among the givers of i exactly where g gives to i
abbrev pub giverb : List Need → List ℕ → List ℕ → List ℕ → ℕ → ℕ → Bool
giverb needs t words places g i =
    let there = member ((tables_in words).prev (at t i) (at places i)) (at places g) in
    imp (eqb (at t g + 1) (at t i)) (imp there (givesb needs g i) && imp (givesb needs g i) there)

-- the starts, tables and places are as the placing asks
unfoldable pub seatedb : List Need → List ℕ → List ℕ → List ℕ → ℕ → Bool
seatedb needs t words places count =
    (leb (length t) max_jobs && leb count max_limit)
    && (eqb (slots t) count
    && (all (λ d. ltb d.0 (length t) && ltb d.1 (length t)) needs
    && (keptb needs t
    && (all (satb t words places) (range (length t) 0) && all (λ g. all (λ i. giverb needs t words places g i) (range (length t) 0)) (range (length t) 0)))))

-- seats that pass it are so
pub seated-by : (needs : List Need) (t words places : List ℕ) (count : ℕ) → T (seatedb needs t words places count) → Seated needs t words places count
unfolding seatedb
seated-by needs t words places count h =
    let r = simp tests at h in
    record {
      few = r.0.0;
      slots-few = r.0.1;
      slots-are = r.1.0;
      needs-in = λ g k m. r.1.1.0 (g, k) m;
      kept = (kept-is needs t).0 r.1.1.1.0;
      place-low = λ i l. (r.1.1.1.1.0 i ((range-below (length t) i).1 l)).0;
      who-is = λ i l. (r.1.1.1.1.0 i ((range-below (length t) i).1 l)).1;
      givers = λ g i l k e.
          let b = r.1.1.1.1.1 g ((range-below (length t) g).1 l) i ((range-below (length t) i).1 k) e in
          (λ m. (gives-is needs g i).0 (b.0 ((T_true _).1 m)), λ m. (T_true _).0 (b.1 ((gives-is needs g i).1 m)));
    }

-- the seat of job i is one of eight places of one of 64 slots
abbrev pub seat_inb : Seats → ℕ → Bool
seat_inb seats i = ltb (at seats.slots i) max_limit && ltb (at seats.places i) max_width

-- the test of eight seats
unfoldable pub seatsb : List Need → Seats → ℕ → Bool
seatsb needs seats count = all (seat_inb seats) (range 8 0) && seatedb needs (starts_of (rows_of seats)) (words_of seats) (places_of seats) count

-- seats that pass it are in, and as the placing asks
pub seats-by : (needs : List Need) (seats : Seats) (count : ℕ) → T (seatsb needs seats count) → SeatsIn seats × SeatsFor needs seats count
unfolding seatsb
seats-by needs seats count h =
    let r = simp tests at h in
    (λ i l. r.0 i ((range-below 8 i).1 l), seated-by needs (starts_of (rows_of seats)) (words_of seats) (places_of seats) count r.1)
