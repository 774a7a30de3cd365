-- The rows of a table: what the reader of question 14 gives. Assumes nothing.
use Rattle.std.specs.Prelude.{◌≡◌, Bool, Option, Some, None, List, ℕ, ◌≤◌, ◌<◌, length, take, T}
use Rattle.rules.specs.Sizes.{max_jobs}
use Rattle.rules.specs.Basics.{choose, at}
use Rattle.rules.specs.Fields.{refused, got, ask, field_end}
use Rattle.rules.specs.Table.{starts, boards_of, decode, row_start}
use Rattle.laws.specs.Decoded.{is_row, decoded_table}
use Rattle.rows.specs.declared.Rows as code

-- the end of the row at offset a, if one stands there
unfoldable pub row_answer : List ℕ → ℕ → Option ℕ
row_answer bs a = choose (is_row bs a) (Some (field_end bs a)) None

-- no more rows than there can be jobs
abbrev pub Few : (ℕ → Bool) → Type 0
Few few = (n : ℕ) → T (few n) → n ≤ max_jobs

-- the reader's numbers and arrays are those of the table of so many rows
pub record RowsRead (bs : List ℕ) (r : code.Rows) (offset start board : List ℕ) : Type 0 where
  pub decoded : (few : ℕ → Bool) → decode few bs ≡ ask (few r.count) 14 (got (decoded_table bs r.count))
  pub slots-is : r.slots ≡ at bs 4
  pub boards-is : r.boards ≡ at bs 5
  pub count-in : r.count ≤ max_jobs
  pub sizes : (length offset ≡ max_jobs) × (length start ≡ max_jobs) × (length board ≡ max_jobs)
  pub rows_are : (i : ℕ) → i < r.count → T (is_row bs (row_start bs i))
  pub offsets_are : (i : ℕ) → i < r.count → at offset i ≡ row_start bs i
  pub starts-are : take r.count start ≡ starts (decoded_table bs r.count)
  pub boards-are : take r.count board ≡ boards_of (decoded_table bs r.count)

-- the reader gives the rows of a table of at most 400 rows alone
pub record Decodes (bs : List ℕ) (r : Option code.Rows) (offset start board : List ℕ) : Type 0 where
  pub held : (rows : code.Rows) → r ≡ Some rows → RowsRead bs rows offset start board
  pub not-read : r ≡ None → (few : ℕ → Bool) → Few few → decode few bs ≡ refused 14
