-- The rows put one behind the other make the table. Assumes nothing.
use Rattle.std.specs.Prelude.{◌≡◌}
use Rattle.std.proofs.Math.Path.{refl, sym, ap, ap₂}
use Rattle.std.proofs.Common.{◌∙◌, add-one, length-drop, drop-drop}
use mathlib.Core.List.{List, [], ◌∷◌, ◌++◌, append_assoc, append-nil}
use Prim.Native.Nat.{ℕ, zero, suc, ◌+◌, ◌-◌, ◌*◌, ◌≤◌}
use native.Mathlib.Omega.{arith}
use Rattle.std.proofs.Math.ListN.{length, drop, length-append}
use Rattle.std.proofs.Math.Seq.{drop-append-add}
use borrow.Rule.Slice.PartMut.{put_mid, mid_of}
use Rattle.rules.specs.Basics.{at, tabulate}
use Rattle.rules.specs.Numbers.{low, high}
use Rattle.rules.specs.Fields.{field, value}
use Rattle.rules.specs.Table.{Row, row_bytes, rows_bytes, encode}
use Rattle.laws.specs.Lists.{tabulate-snoc}
use Rattle.writer.specs.Written.{head_bytes, row_with, table_with, JobFields}
use Rattle.writer.specs.RowLaws.{row-length, put-behind}

rows_snoc : (rs : List Row) (r : Row) → rows_bytes (rs ++ r ∷ []) ≡ rows_bytes rs ++ row_bytes r
unfolding rows_bytes
rows_snoc [] r = append-nil (row_bytes r)
rows_snoc (x ∷ rs) r = ap (λ (l : List ℕ). row_bytes x ++ l) (rows_snoc rs r) ∙ sym (append_assoc (row_bytes x) (rows_bytes rs) (row_bytes r))

module _ (bs o t b : List ℕ) (slots boards : ℕ) where
  -- the bytes of the table with the first i rows
  abbrev pub up_to : ℕ → List ℕ
  up_to i = encode (table_with bs o t b i slots boards)

  pub no_rows : up_to 0 ≡ head_bytes slots boards
  unfolding encode table_with tabulate rows_bytes head_bytes field low high
  no_rows = refl

  pub one-row-more : (i : ℕ) → up_to (i + 1) ≡ up_to i ++ row_bytes (row_with (at t i) (at b i) (value bs (at o i)))
  unfolding encode table_with
  one-row-more i =
      rw (add-one i) (ap (λ (l : List ℕ). head ++ l) (ap rows_bytes (tabulate-snoc row i 0) ∙ rows_snoc (tabulate row i 0) (row (0 + i))
      ∙ ap (λ (n : ℕ). rows_bytes (tabulate row i 0) ++ row_bytes (row n)) zero-i)
      ∙ sym (append_assoc head (rows_bytes (tabulate row i 0)) (row_bytes (row i))))
    where
      head : List ℕ
      head = field 16 (1 ∷ slots ∷ boards ∷ [])

      row : ℕ → Row
      row j = row_with (at t j) (at b j) (value bs (at o j))

      zero-i : 0 + i ≡ i
      zero-i = omega arith

  module _ (n : ℕ) (fields : JobFields bs o n) where
    pub bytes-so-far : (i : ℕ) → i ≤ n → length (up_to i) ≤ 6 + 19 * i
    unfolding head_bytes
    bytes-so-far zero h = omega (arith, ap length no_rows)
    bytes-so-far (suc i) h =
        let e : i + 1 ≡ suc i = omega arith in
        omega (
          arith,
          bytes-so-far i (omega arith),
          ap (λ (j : ℕ). length (up_to j)) e,
          ap length (one-row-more i),
          length-append (up_to i) (row_bytes (row_with (at t i) (at b i) (value bs (at o i)))),
          row-length (at t i) (at b i) (value bs (at o i)) (omega (arith, fields.long i (omega arith))),
          fields.short i (omega arith),
        )

-- ---- the loop's invariant: i rows of the table stand in front of what l had behind them

pub record WrittenTo (w l : List ℕ) (a : ℕ) (table : List ℕ) : Type 0 where
  pub size : a ≡ length w
  pub room : a ≤ length l
  pub bytes : table ≡ w ++ drop a l

pub written-length : (w l : List ℕ) (a : ℕ) (table : List ℕ) → WrittenTo w l a table → length table ≡ length l
written-length w l a table so = omega (arith, so.size, so.room, ap length so.bytes, length-append w (drop a l), length-drop a l)

-- one row more
pub row_written : (w r l table q : List ℕ) (a k : ℕ) (w' : List ℕ) → WrittenTo w l a table → w' ≡ w ++ r → a + length r ≤ length l → k ≡ length table - a → q
    ≡ r ++ drop (length r) (mid_of a k table)
    → WrittenTo w' l (a + length r) (put_mid a k table q)
row_written w r l table q a k w' so e fits ek eq = record {
  size = omega (arith, so.size, ap length e, length-append w r);
  room = fits;
  bytes = put-behind w r l table q a k (sym so.size) fits so.bytes ek eq ∙ ap (λ (x : List ℕ). x ++ drop (a + length r) l) (sym e);
}

pub head-length : (slots boards : ℕ) (buffer table : List ℕ) → table ≡ head_bytes slots boards ++ drop 6 buffer → 6 ≤ length buffer
    → length table ≡ length buffer
unfolding head_bytes
head-length slots boards buffer table e h = omega (arith, ap length e, length-drop 6 buffer)

module _ (bs o t b : List ℕ) (slots boards : ℕ) where
  -- the head is put over the first six bytes of the buffer
  pub head-written : (buffer table : List ℕ) → table ≡ head_bytes slots boards ++ drop 6 buffer → WrittenTo (up_to bs o t b slots boards 0) table 6 table
  unfolding head_bytes
  head-written buffer table e = record {
    size = sym (ap length (no_rows bs o t b slots boards));
    room = omega (arith, ap length e);
    bytes = e ∙ ap₂ (λ (x y : List ℕ). x ++ y) (sym (no_rows bs o t b slots boards)) (sym (ap (drop 6) e));
  }

  -- a turn: the row of job i, with its value v, is put behind the others
  pub row-turn : (i : ℕ) (v l table q : List ℕ) (a k size : ℕ) → WrittenTo (up_to bs o t b slots boards i) l a table → v ≡ value bs (at o i) → a + 19 ≤ length l
      → length v ≤ 14 → 2 ≤ length v
      → size ≡ length (row_bytes (row_with (at t i) (at b i) v)) → k ≡ length table - a → q
      ≡ row_bytes (row_with (at t i) (at b i) v) ++ drop size (mid_of a k table)
      → WrittenTo (up_to bs o t b slots boards (i + 1)) l (a + size) (put_mid a k table q)
  row-turn i v l table q a k size so ev fits short long es ek eq =
      let r = row_bytes (row_with (at t i) (at b i) v) in
      let room : a + length r ≤ length l = omega (arith, row-length (at t i) (at b i) v long) in
      let more = row_written (up_to bs o t b slots boards i) r l table q a k (up_to bs o t b slots boards (i + 1)) so (one-row-more bs o t b slots boards i
      ∙ ap (λ (x : List ℕ). up_to bs o t b slots boards i ++ row_bytes (row_with (at t i) (at b i) x)) (sym ev)) room ek (rw (← es) eq) in
      rw es more

  -- at the end the table stands in front of what the buffer had behind it
  pub all-written : (n : ℕ) (buffer start table : List ℕ) (a : ℕ) → start ≡ head_bytes slots boards ++ drop 6 buffer → 6 ≤ a
      → WrittenTo (up_to bs o t b slots boards n) start a table
      → table ≡ up_to bs o t b slots boards n ++ drop a buffer
  unfolding head_bytes
  all-written n buffer start table a e h so = so.bytes ∙ ap (λ (x : List ℕ). up_to bs o t b slots boards n ++ x) behind
    where
      past_head : drop (6 + (a - 6)) (head_bytes slots boards ++ drop 6 buffer) ≡ drop (a - 6) (drop 6 buffer)
      past_head = drop-append-add (head_bytes slots boards) (drop 6 buffer) (a - 6)

      behind : drop a start ≡ drop a buffer
      behind =
          let p : a ≡ 6 + (a - 6) = omega arith in
          ap (drop a) e ∙ ap (λ (m : ℕ). drop m (head_bytes slots boards ++ drop 6 buffer)) p ∙ past_head ∙ drop-drop (a - 6) 6 buffer
          ∙ ap (λ (m : ℕ). drop m buffer) (sym p)
