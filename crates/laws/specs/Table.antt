-- Reading a table back: decoding what was encoded gives the same table; what it takes to decode; the size of a table. Assumes nothing.
use Rattle.std.specs.Prelude.{◌≡◌, refl, ◌↔◌, Bool, ◌&&◌, ℕ, suc, ◌+◌, ◌-◌, ◌*◌, ◌≤◌, ◌<◌, take, drop, T, eqb}
use Rattle.std.proofs.Math.Path.{sym, ap, subst}
use Rattle.std.proofs.Common.{◌∙◌, arith, get_or-append-add}
use mathlib.Core.List.{List, [], ◌∷◌, ◌++◌, append_assoc, append-nil}
use Rattle.std.proofs.Math.ListN.{length, length-append}
use Rattle.std.proofs.Math.Seq.{get_or-append_seam, drop-append-add, take-append_seam}
use Rattle.rules.specs.Sizes.{max_jobs, table_size}
use Rattle.rules.specs.Basics.{at}
use Rattle.rules.specs.Numbers.{word, low, high, signed, unsigned, InRange}
use Rattle.rules.specs.Fields.{Answer, got, ask, after, part, field, field_end, value, whole, over_fields}
use Rattle.rules.specs.JobFile.{name_ok}
use Rattle.rules.specs.Table.{Row, Table, nth_row, row_bytes, rows_bytes, encode, row_of, read_row, head_ok, decode}
use Rattle.laws.specs.Tests.{tests}
use Rattle.laws.specs.Numbers.{word_split, signed-unsigned}
use Rattle.laws.specs.Fields.{ask-got, after-got, ask-yes, whole_is, over_fields-step, over_fields-end}

-- ---- a field in the middle of a file

pub record FieldAt (bs : List ℕ) (a tag : ℕ) (v : List ℕ) : Type 0 where
  pub is_whole : T (whole bs a)
  pub tag_is : at bs a ≡ tag
  pub end_is : field_end bs a ≡ a + (3 + length v)
  pub value-is : value bs a ≡ v

pub field-at : (pre : List ℕ) (tag : ℕ) (v rest : List ℕ) → length v < 65536 → FieldAt (pre ++ (field tag v ++ rest)) (length pre) tag v
unfolding field field_end value part
field-at pre tag v rest h = record {
  is_whole = (whole_is bs a).1 (omega (arith, len), omega (arith, len, ends));
  tag_is = get_or-append_seam pre tag _ 0;
  end_is = ends;
  value-is = body;
}
  where
    bs : List ℕ
    bs = pre ++ (tag ∷ low (length v) ∷ high (length v) ∷ (v ++ rest))

    a : ℕ
    a = length pre

    len : length bs ≡ length pre + (3 + (length v + length rest))
    len = omega (arith, length-append pre (tag ∷ low (length v) ∷ high (length v) ∷ (v ++ rest)), length-append v rest)

    ends : field_end bs a ≡ a + (3 + length v)
    ends = rw (
      get_or-append-add pre (tag ∷ low (length v) ∷ high (length v) ∷ (v ++ rest)) 1 0,
      get_or-append-add pre (tag ∷ low (length v) ∷ high (length v) ∷ (v ++ rest)) 2 0,
    ) (rw (word_split (length v) h).0 (omega arith))

    body : value bs a ≡ v
    body = let e : field_end bs a - (a + 3) ≡ length v = omega (arith, ends) in
        ap (λ (n : ℕ). take n (drop (a + 3) bs)) e ∙ ap (take (length v)) (drop-append-add pre (tag ∷ low (length v) ∷ high (length v) ∷ (v ++ rest)) 3)
        ∙ take-append_seam v rest

-- ---- what bytes can hold

pub record RowOk (r : Row) : Type 0 where
  pub start-in : r.start < 256
  pub board-in : r.board < 256
  pub level_in : InRange r.level
  pub name-ok : T (name_ok r.name)

abbrev pub RowsOk : List Row → Type 0
RowsOk [] = Unit {0}
RowsOk (r ∷ rs) = RowOk r × RowsOk rs

-- all rows are such where each of them is
pub rows-each : (rows : List Row) → ((i : ℕ) → i < length rows → RowOk (nth_row rows i)) → RowsOk rows
rows-each [] each = tt
rows-each (r ∷ rows) each = (each 0 (omega arith), rows-each rows (λ i h. each (suc i) (omega arith)))

-- the value bytes of a row
abbrev row_value : Row → List ℕ
row_value r = r.start ∷ r.board ∷ low (unsigned r.level) ∷ high (unsigned r.level) ∷ r.name

pub name-length : (name : List ℕ) → T (name_ok name) → (1 ≤ length name) × (length name ≤ 12)
unfolding name_ok
name-length name h = let w = simp tests at h in (w.0, w.1.0)

row-of : (r : Row) → RowOk r → row_of (row_value r) ≡ r
unfolding row_of
row-of r ok =
    let u = signed-unsigned r.level ok.level_in in
    ap (λ z. record { start = r.start; board = r.board; level = z; name = r.name }) (ap signed (word_split (unsigned r.level) u.1).0 ∙ u.0)

-- ---- the rows are read one after the other

module _ (bs : List ℕ) where
  row_read : (pre rest : List ℕ) (r : Row) → RowOk r → bs ≡ pre ++ (row_bytes r ++ rest) → (rows : List Row)
      → (read_row bs rows (length pre) ≡ got (rows ++ r ∷ [])) × (field_end bs (length pre) ≡ length (pre ++ row_bytes r))
  unfolding read_row row_bytes field
  row_read pre rest r ok e rows = (
    ask-yes (whole bs (length pre) && (eqb (at bs (length pre)) 17 && name_ok (drop 4 (value bs (length pre))))) 14 _
        (simp tests (f.is_whole, (f.tag_is, rw f.value-is ok.name-ok))) ∙ ap (λ (x : Row). got (rows ++ x ∷ [])) (ap row_of f.value-is ∙ row-of r ok),
    omega (arith, f.end_is, length-append pre (field 17 (row_value r))),
  )
    where
      f : FieldAt bs (length pre) 17 (row_value r)
      f = subst (λ (l : List ℕ). FieldAt l (length pre) 17 (row_value r)) (sym e)
          (field-at pre 17 (row_value r) rest (omega (arith, name-length r.name ok.name-ok)))

  rows-read : (rs : List Row) → RowsOk rs → (pre : List ℕ) → bs ≡ pre ++ rows_bytes rs → (k : ℕ) → length bs - length pre ≤ k → (rows : List Row)
      → over_fields (read_row bs) k bs (length pre) rows ≡ got (rows ++ rs)
  unfolding rows_bytes
  rows-read [] ok pre e k l rows = over_fields-end (read_row bs) k bs (length pre) rows (omega (arith, ap length (e ∙ append-nil pre)))
      ∙ ap got (sym (append-nil rows))
  rows-read (r ∷ rs) ok pre e k l rows =
      let w = row_read pre (rows_bytes rs) r ok.0 e rows in
      let long : length pre < length bs = longer (ap length e) in
      let p = over_fields-step (read_row bs) k bs (length pre) rows long l in
      let next = rows-read rs ok.1 (pre ++ row_bytes r) (e ∙ sym (append_assoc pre (row_bytes r) (rows_bytes rs))) p.0 (rw (← w.1) p.1)
      (rows ++ r ∷ []) in
      p.2 ∙ joined p.0 ((rows ++ r ∷ []) ++ rs) w.0 w.1 next ∙ ap got (append_assoc rows (r ∷ []) rs)
    where
      longer : length bs ≡ length (pre ++ (row_bytes r ++ rows_bytes rs)) → length pre < length bs
      longer q = unfold row_bytes field in omega (arith, length-append pre (row_bytes r ++ rows_bytes rs))

      joined : (j : ℕ) (q : List Row) → read_row bs rows (length pre) ≡ got (rows ++ r ∷ []) → field_end bs (length pre) ≡ length (pre ++ row_bytes r)
          → over_fields (read_row bs) j bs (length (pre ++ row_bytes r)) (rows ++ r ∷ []) ≡ got q
          → after (read_row bs rows (length pre)) (λ t. over_fields (read_row bs) j bs (field_end bs (length pre)) t) ≡ got q
      joined j q x y z = unfold after in rw (x, y) z

-- ---- the whole table

-- a table that bytes can hold: slots, boards, starts and boards of jobs are bytes, levels two-byte numbers, and names are names
pub record TableOk (t : Table) : Type 0 where
  pub slots-in : t.slots < 256
  pub boards-in : t.boards < 256
  pub rows_ok : RowsOk t.rows

-- decoding an encoded table gives back slots, boards, starts, boards of jobs, levels and names
pub decode-encode : (few : ℕ → Bool) (t : Table) → TableOk t → T (few (length t.rows)) → decode few (encode t) ≡ got t
unfolding decode encode field low high
decode-encode few t ok h = ask-yes (head_ok bs) 14 _ head_ok_lem
    ∙ ap (λ (x : Answer (List Row)). after x finish) (rows-read bs t.rows ok.rows_ok (take 6 bs) refl (length bs) (omega arith) []) ∙ last
  where
    bs : List ℕ
    bs = 16 ∷ 3 ∷ 0 ∷ 1 ∷ t.slots ∷ t.boards ∷ rows_bytes t.rows

    finish : List Row → Answer Table
    finish rows = ask (few (length rows)) 14 (got (record { slots = t.slots; boards = t.boards; rows = rows }))

    last : after (got t.rows) finish ≡ got t
    last = unfold after in ask-yes (few (length t.rows)) 14 (got t) h

    head_ok_lem : T (head_ok bs)
    head_ok_lem = unfold head_ok field_end value part word in simp tests ((whole_is bs 0).1 (omega arith), (tt, (tt, refl)))

-- ---- what it takes to decode

-- all rows that stand in the bytes
abbrev pub all_rows : List ℕ → Answer (List Row)
all_rows bs = over_fields (read_row bs) (length bs) bs 6 []

-- question 14 of the bytes: their head, all rows, and as many of them as are allowed; slots and boards are two bytes of the head
pub record DecodesTo (few : ℕ → Bool) (bs : List ℕ) (t : Table) : Type 0 where
  pub head : T (head_ok bs)
  pub rows_are : all_rows bs ≡ got t.rows
  pub few-rows : T (few (length t.rows))
  pub slots-is : at bs 4 ≡ t.slots
  pub boards-is : at bs 5 ≡ t.boards

-- bytes decode to a table exactly where they keep this
pub decodes-to : (few : ℕ → Bool) (bs : List ℕ) (t : Table) → (decode few bs ≡ got t) ↔ DecodesTo few bs t
unfolding decode after
decodes-to few bs t = (
  λ e. let h = ask-got (head_ok bs) 14 _ t e in
      let w = after-got (all_rows bs) _ t h.1 in
      let c = ask-got (few (length w.0)) 14 _ t w.2 in
      let q : ◌≡◌ {A = Table} (record { slots = at bs 4; boards = at bs 5; rows = w.0 }) t = cc c.1 in
      record {
        head = h.0;
        rows_are = w.1 ∙ ap (λ (u : Table). got u.rows) q;
        few-rows = subst (λ (u : Table). T (few (length u.rows))) q c.0;
        slots-is = ap (λ (u : Table). u.slots) q;
        boards-is = ap (λ (u : Table). u.boards) q;
      },
  λ d. ask-yes (head_ok bs) 14 _ d.head ∙ rw (d.rows_are, d.slots-is, d.boards-is) (ask-yes (few (length t.rows)) 14 _ d.few-rows),
)

-- ---- the size

rows-length : (rs : List Row) → RowsOk rs → length (rows_bytes rs) ≤ 19 * length rs
unfolding rows_bytes row_bytes field
rows-length [] ok = omega arith
rows-length (r ∷ rs) ok = omega (arith, rows-length rs ok.1, name-length r.name ok.0.name-ok, length-append (row_bytes r) (rows_bytes rs))

-- the longest table is 7,606 bytes (document 02, request 8)
pub encode-length : (t : Table) → TableOk t → length t.rows ≤ max_jobs → length (encode t) ≤ table_size
unfolding encode field
encode-length t ok h = omega (arith, rows-length t.rows ok.rows_ok)
