-- Questions 16 and 17 of the rows that were read are those of the table. Assumes nothing.
use Rattle.std.specs.Prelude.{◌≡◌, Option, Bool, List, ℕ, ◌≤◌, length, take}
use Rattle.std.proofs.Math.Path.{refl, ap}
use Rattle.std.proofs.Common.{sym, ◌∙◌, arith}
use Rattle.std.proofs.Math.Bool.{true, false}
use Rattle.std.proofs.lemmas.List.{length-map}
use Rattle.std.specs.Option.{unwrap_or}
use Rattle.rules.specs.Sizes.{max_jobs, max_boards, max_limit}
use Rattle.rules.specs.Basics.{choose}
use Rattle.rules.specs.Fields.{Answer, refused, ask}
use Rattle.rules.specs.Program.{slots}
use Rattle.rules.specs.Table.{Table, starts, boards_of, sized, apartb}
use Rattle.laws.specs.Tests.{tests, T_true}
use Rattle.laws.specs.Lists.{length-tabulate}
use Rattle.laws.specs.Counting.{at_most}
use Rattle.laws.specs.Decoded.{row_number, decoded_table}
use Rattle.rows.specs.Rows.{RowsRead}
use Rattle.questions.specs.Questions.{sized_in, InCells}
use Rattle.table.specs.Entries.{cell_number}
use Rattle.rows.specs.declared.Rows.{Rows}

-- a table of n rows has n of them
pub rows-length : (bs : List ℕ) (n : ℕ) → length (decoded_table bs n).rows ≡ n
unfolding decoded_table
rows-length bs n = length-tabulate (row_number bs) n 0

-- what question 16 says of the starts and the boards: they are those of cells
pub in_cells : (L most sl bo : ℕ) (t b : List ℕ) → L ≤ max_limit → most ≤ max_boards → length b ≡ length t → sized_in L most sl bo t b ≡ true → InCells t b
unfolding sized_in slots
in_cells L most sl bo t b h l len e i i-in = let w = simp tests at ((T_true _).1 e) in omega (arith, w, at_most t i, at_most b i)

-- ---- the rows of a table

-- what the reader of a table left: its counts, and of each row where it begins, its start and its board
pub record Lines : Type 0 where
  pub counts : Rows
  pub offsets : List ℕ
  pub starts : List ℕ
  pub boards : List ℕ

-- they are those of the table
abbrev pub LinesRead : List ℕ → Lines → Type 0
LinesRead bs r = RowsRead bs r.counts r.offsets r.starts r.boards

-- the starts and the boards of n rows
abbrev pub starts_in : ℕ → Lines → List ℕ
starts_in n r = take n r.starts

abbrev pub boards_in : ℕ → Lines → List ℕ
boards_in n r = take n r.boards

-- 16 and 17 of them, for a limit and sockets: the number of the first that says no, or 0
abbrev pub cells_in : ℕ → Option ℕ → ℕ → Lines → ℕ
cells_in L sockets n r = cell_number L sockets r.counts.slots r.counts.boards (starts_in n r) (boards_in n r)

-- the arrays have an entry for each row
pub lines_long : {bs : List ℕ} {r : Lines} → LinesRead bs r → {n : ℕ} → n ≡ r.counts.count
    → (n ≤ length r.starts) × (n ≤ length r.boards) × (n ≤ length r.offsets) × (n ≤ max_jobs)
lines_long read e = omega (arith, read.sizes, read.count-in)

module _ (bs : List ℕ) (r : Lines) (read : LinesRead bs r) where
  -- so many rows
  abbrev m : ℕ
  m = r.counts.count

  t : Table
  t = decoded_table bs r.counts.count

  sized-is : (L most : ℕ) → sized_in L most r.counts.slots r.counts.boards (starts_in m r) (boards_in m r) ≡ sized L most t
  unfolding sized sized_in t decoded_table
  sized-is L most = rw (read.slots-is, read.boards-is, read.starts-are, read.boards-are) refl

  -- row by row
  count-is : length (starts_in m r) ≡ m
  count-is = ap length read.starts-are ∙ length-map (decoded_table bs m).rows (λ w. w.start) ∙ rows-length bs m

  apart-is : apartb (length (starts_in m r)) (starts_in m r) (boards_in m r) ≡ apartb m (starts t) (boards_of t)
  unfolding t
  apart-is = rw (count-is, read.starts-are, read.boards-are) refl

  module _ {A : Type 0} (L : ℕ) (sockets : Option ℕ) (n : ℕ) (n-is : n ≡ r.counts.count) (x : Answer A) where
    -- as many boards as the file allows, or eight
    abbrev most : ℕ
    most = unwrap_or sockets max_boards

    number_is : cells_in L sockets n r ≡ choose {A = ℕ} (sized L most t) (choose {A = ℕ} (apartb m (starts t) (boards_of t)) 0 17) 16
    unfolding cell_number
    number_is = rw n-is (rw (sized-is L most, apart-is) refl)

    -- the two questions, and then x
    abbrev pub ask_cells : Answer A
    ask_cells = ask (sized L (unwrap_or sockets max_boards) (decoded_table bs r.counts.count)) 16
        (ask (apartb r.counts.count (starts (decoded_table bs r.counts.count)) (boards_of (decoded_table bs r.counts.count))) 17 x)

    pub cells-yes : cells_in L sockets n r ≡ 0 → ask_cells ≡ x
    unfolding choose ask t
    cells-yes z = go (sized L most t) (apartb m (starts t) (boards_of t)) (sym number_is ∙ z)
      where
        go : (b c : Bool) → choose {A = ℕ} b (choose {A = ℕ} c 0 17) 16 ≡ 0 → ask b 16 (ask c 17 x) ≡ x
        go true true e = refl
        go true false e = absurd (omega arith)
        go false c e = absurd (omega arith)

    pub cells-no : (q : ℕ) → q ≡ cells_in L sockets n r → (q ≡ 0 → ⊥) → ask_cells ≡ refused q
    unfolding choose ask t
    cells-no q q-is z = go (sized L most t) (apartb m (starts t) (boards_of t)) (q-is ∙ number_is)
      where
        go : (b c : Bool) → q ≡ choose {A = ℕ} b (choose {A = ℕ} c 0 17) 16 → ask b 16 (ask c 17 x) ≡ refused q
        go true true e = absurd (z e)
        go true false e = ap refused (sym e)
        go false c e = ap refused (sym e)
