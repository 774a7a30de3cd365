-- Bytes that decode to a table: its rows stand in them one behind the other, and they are that table's bytes. Assumes nothing.
use Rattle.std.specs.Prelude.{◌≡◌, refl, ◌↔◌, Bool, true, false, ◌&&◌, take, drop, T, ltb, eqb}
use Rattle.std.proofs.Math.Path.{sym, ap}
use Rattle.std.proofs.Common.{subst, ◌∙◌, take-append-drop, drop_of_length-le, drop-drop}
use mathlib.Core.List.{List, [], ◌∷◌, ◌++◌}
use Prim.Native.Nat.{ℕ, zero, suc, ◌+◌, ◌-◌, ◌≤◌, ◌<◌}
use native.Mathlib.Omega.{arith}
use Rattle.std.proofs.Math.Decide.{ℕ_discrete}
use Rattle.std.proofs.Math.ListN.{length, length-drop}
use Rattle.rules.specs.Basics.{choose, at, tabulate}
use Rattle.rules.specs.Numbers.{Bytes, word, low, high}
use Rattle.rules.specs.Fields.{Answer, got, after, part, field, field_end, value, whole, over_fields}
use Rattle.rules.specs.JobFile.{name_ok}
use Rattle.rules.specs.Table.{Row, Table, nth_row, row_bytes, rows_bytes, encode, row_of, read_row, head_ok, decode, row_start}
use Rattle.laws.specs.Tests.{tests, T-ltb}
use Rattle.laws.specs.Lists.{tabulate-at, length-tabulate, tabulate-last}
use Rattle.laws.specs.Numbers.{bytes-at, split-word, unsigned_signed}
use Rattle.laws.specs.Fields.{ask-got, after-got, whole_is, after-head, length-value, bytes-value}
use Rattle.laws.specs.Table.{RowOk, TableOk, rows-each, name-length, decode-encode, decodes-to}
use Rattle.laws.specs.FieldsBut.{field_is}

-- the field at offset a is a row: tag 17, and a name behind its four fixed bytes
unfoldable pub is_row : List ℕ → ℕ → Bool
is_row bs a = whole bs a && (eqb (at bs a) 17 && name_ok (drop 4 (value bs a)))

-- row i of the bytes
unfoldable pub row_number : List ℕ → ℕ → Row
row_number bs i = row_of (value bs (row_start bs i))

-- the table that the first n rows make
unfoldable pub decoded_table : List ℕ → ℕ → Table
decoded_table bs n = record { slots = at bs 4; boards = at bs 5; rows = tabulate (row_number bs) n 0 }

-- ---- the rows stand in the bytes one behind the other

module _ (bs : List ℕ) where
  -- so many rows stand in the bytes
  abbrev RowsTo : ℕ → Type 0
  RowsTo n = (i : ℕ) → i < n → T (is_row bs (row_start bs i))

  -- all that stand there are these rows
  abbrev RowsAre : List Row → Type 0
  RowsAre rows = (m : ℕ) × RowsTo m × (length bs ≤ row_start bs m) × (rows ≡ tabulate (row_number bs) m 0)

  read-row : (n : ℕ) (t : List Row) → read_row bs (tabulate (row_number bs) n 0) (row_start bs n) ≡ got t
      → T (is_row bs (row_start bs n)) × (t ≡ tabulate (row_number bs) (suc n) 0)
  unfolding read_row is_row row_number
  read-row n t e =
      let w = ask-got (is_row bs (row_start bs n)) 14 (got (tabulate (row_number bs) n 0 ++ row_number bs n ∷ [])) t e in
      let q : tabulate (row_number bs) n 0 ++ row_number bs n ∷ [] ≡ t = cc w.1 in
      (w.0, sym q ∙ sym (tabulate-last (row_number bs) n))

  -- what is read from row n on
  abbrev read_from : ℕ → ℕ → List Row → Answer (List Row)
  read_from k n rows = over_fields (read_row bs) k bs (row_start bs n) rows

  -- what is read behind n rows is the rest of them
  rows_of : (k n : ℕ) → RowsTo n → length bs - row_start bs n ≤ k → (rows : List Row)
      → read_from k n (tabulate (row_number bs) n 0) ≡ got rows → RowsAre rows
  unfolding over_fields choose
  rows_of zero n to l rows e = (n, to, omega arith, let q : tabulate (row_number bs) n 0 ≡ rows = cc in sym q)
  rows_of (suc k) n to l rows e = go (ltb (row_start bs n) (length bs)) (T-ltb (row_start bs n) (length bs)).1 e (rows_of k (suc n))
    where
      here : List Row
      here = tabulate (row_number bs) n 0

      next : T (is_row bs (row_start bs n)) → (i : ℕ) → i < suc n → Dec (i ≡ n) → T (is_row bs (row_start bs i))
      next t i l (yes p) = rw p t
      next t i l (no p) = to i (omega arith)

      go : (b : Bool) → (row_start bs n < length bs → T b)
          → choose b (after (read_row bs here (row_start bs n)) (λ t. over_fields (read_row bs) k bs (field_end bs (row_start bs n)) t)) (got here) ≡ got rows
          → (RowsTo (suc n) → length bs - row_start bs (suc n) ≤ k → (u : List Row)
          → read_from k (suc n) (tabulate (row_number bs) (suc n) 0) ≡ got u → RowsAre u) → RowsAre rows
      go false more q ih = let end : ¬ (row_start bs n < length bs) = more in (n, to, omega arith, let z : here ≡ rows = cc in sym z)
      go true more q ih =
          let w = after-got (read_row bs here (row_start bs n)) _ rows q in
          let r = read-row n w.0 w.1 in
          ih (λ i l. next r.0 i l (ℕ_discrete i n)) shorter rows (behind w.0 r.1 w.2)
        where
          shorter : length bs - row_start bs (suc n) ≤ k
          shorter = unfold row_start in omega (arith, after-head bs (row_start bs n), l)

          behind : (t : List Row) → t ≡ tabulate (row_number bs) (suc n) 0 → over_fields (read_row bs) k bs (field_end bs (row_start bs n)) t ≡ got rows
              → read_from k (suc n) (tabulate (row_number bs) (suc n) 0) ≡ got rows
          behind t p z = unfold row_start in rw (← p) z

  -- bytes that decode to a table have its rows one behind the other, "and nothing more"
  pub decoded-is : (few : ℕ → Bool) (t : Table) → decode few bs ≡ got t
      → ((i : ℕ) → i < length t.rows → T (is_row bs (row_start bs i)))
      × (length bs ≤ row_start bs (length t.rows)) × (t ≡ decoded_table bs (length t.rows))
  unfolding decoded_table row_start tabulate
  decoded-is few t e =
      let d = (decodes-to few bs t).0 e in
      let r = rows_of (length bs) 0 (λ i l. absurd (omega arith)) (omega arith) t.rows d.rows_are in
      let l : length t.rows ≡ r.0 = ap length r.3 ∙ length-tabulate (row_number bs) r.0 0 in
      rw l (r.1, r.2, rw (d.slots-is, d.boards-is, ← r.3) refl)

  -- row i of it
  pub decoded-row : (few : ℕ → Bool) (t : Table) → decode few bs ≡ got t → (i : ℕ) → i < length t.rows → nth_row t.rows i ≡ row_number bs i
  unfolding decoded_table
  decoded-row few t e i l =
      ap (λ (u : Table). nth_row u.rows i) (decoded-is few t e).2 ∙ tabulate-at (row_number bs) (length t.rows) 0 i _ l
      ∙ let z : 0 + i ≡ i = omega arith in ap (row_number bs) z

-- ---- the bytes of a row

-- the value of a row with its four fixed bytes is that of its field
row-value : (v : List ℕ) → Bytes v → 4 ≤ length v → row_bytes (row_of v) ≡ field 17 v
unfolding row_bytes row_of
row-value [] h l = absurd (omega arith)
row-value (s ∷ []) h l = absurd (omega arith)
row-value (s ∷ b ∷ []) h l = absurd (omega arith)
row-value (s ∷ b ∷ lo ∷ []) h l = absurd (omega arith)
row-value (s ∷ b ∷ lo ∷ hi ∷ name) h l =
    let w = split-word lo hi h.1.1.0 h.1.1.1.0 in
    rw ((unsigned_signed (word lo hi) w.2).0, w.0, w.1) refl

-- start, board and level of a row of bytes are what bytes can hold
row_ok : (v : List ℕ) → Bytes v → T (name_ok (drop 4 v)) → RowOk (row_of v)
unfolding row_of
row_ok v h n = record {
  start-in = bytes-at v h 0;
  board-in = bytes-at v h 1;
  level_in = (unsigned_signed (word (at v 2) (at v 3)) (split-word (at v 2) (at v 3) (bytes-at v h 2) (bytes-at v h 3)).2).1;
  name-ok = n;
}

-- ---- the bytes of the table

-- the bytes from one offset to another, and those behind
part-rest : (bs : List ℕ) (a e : ℕ) → a ≤ e → part bs a e ++ drop e bs ≡ drop a bs
unfolding part
part-rest bs a e h =
    let q : a + (e - a) ≡ e = omega arith in
    ap (λ (l : List ℕ). take (e - a) (drop a bs) ++ l) (sym (drop-drop (e - a) a bs ∙ ap (λ (k : ℕ). drop k bs) q)) ∙ take-append-drop (e - a) (drop a bs)

-- the six bytes of a head, and what follows them
head_bytes_lem : (bs : List ℕ) → T (head_ok bs) → bs ≡ 16 ∷ 3 ∷ 0 ∷ 1 ∷ at bs 4 ∷ at bs 5 ∷ drop 6 bs
unfolding head_ok field_end word
head_bytes_lem bs h =
    let w = simp tests at h in
    let size = length-value bs 0 w.0 in
    go bs (omega (arith, w, size, (whole_is bs 0).0 w.0)) w.1.0 (omega (arith, w, size)) w.1.1.1
  where
    go : (l : List ℕ) → 6 ≤ length l → at l 0 ≡ 16 → (at l 1 ≡ 3) × (at l 2 ≡ 0) → at l 3 ≡ 1 → l ≡ 16 ∷ 3 ∷ 0 ∷ 1 ∷ at l 4 ∷ at l 5 ∷ drop 6 l
    go [] n p q r = absurd (omega arith)
    go (a ∷ []) n p q r = absurd (omega arith)
    go (a ∷ b ∷ []) n p q r = absurd (omega arith)
    go (a ∷ b ∷ c ∷ []) n p q r = absurd (omega arith)
    go (a ∷ b ∷ c ∷ d ∷ []) n p q r = absurd (omega arith)
    go (a ∷ b ∷ c ∷ d ∷ e ∷ []) n p q r = absurd (omega arith)
    go (a ∷ b ∷ c ∷ d ∷ e ∷ f ∷ l) n p q r = rw (p, q.0, q.1, r) refl

module _ (bs : List ℕ) (bytes : Bytes bs) where
  -- a row's bytes are those of its field
  row-bytes : (i : ℕ) → T (is_row bs (row_start bs i)) → row_bytes (row_number bs i) ≡ part bs (row_start bs i) (row_start bs (suc i))
  unfolding is_row row_number row_start
  row-bytes i t =
      let a = row_start bs i in
      let w = simp tests at t in
      let long : 4 ≤ length (value bs a) = omega (arith, name-length (drop 4 (value bs a)) w.1.1, length-drop 4 (value bs a)) in
      row-value (value bs a) (bytes-value bs a bytes) long ∙ ap (λ (tag : ℕ). field tag (value bs a)) (sym w.1.0) ∙ sym (field_is bs bytes a w.0)

  -- the bytes of the last k rows, from row i on
  rows-bytes : (k i : ℕ) → ((j : ℕ) → j < i + k → T (is_row bs (row_start bs j))) → length bs ≤ row_start bs (i + k)
      → rows_bytes (tabulate (row_number bs) k i) ≡ drop (row_start bs i) bs
  unfolding rows_bytes tabulate
  rows-bytes zero i rows end = let z : i + 0 ≡ i = omega arith in sym (drop_of_length-le bs (rw z at end))
  rows-bytes (suc k) i rows end =
      let next : i + suc k ≡ suc i + k = omega arith in
      rw (row-bytes i (rows i (omega arith)), rows-bytes k (suc i) (λ j h. rows j (omega arith)) (rw next at end))
      (part-rest bs (row_start bs i) (row_start bs (suc i)) later)
    where
      later : row_start bs i ≤ row_start bs (suc i)
      later = unfold row_start in omega (arith, after-head bs (row_start bs i))

  module _ (few : ℕ → Bool) (t : Table) (decoded : decode few bs ≡ got t) where
    -- the bytes of its rows stand behind the head
    rows_behind : rows_bytes t.rows ≡ drop 6 bs
    unfolding decoded_table row_start
    rows_behind =
        let r = decoded-is bs few t decoded in
        let z : 0 + length t.rows ≡ length t.rows = omega arith in
        ap (λ (u : Table). rows_bytes u.rows) r.2 ∙ rows-bytes (length t.rows) 0 (λ j h. r.0 j (omega arith)) (rw z r.1)

    -- bytes that decode to a table are that table's bytes
    pub encode-decode : encode t ≡ bs
    unfolding encode field low high
    encode-decode = let d = (decodes-to few bs t).0 decoded in rw (rows_behind, ← d.slots-is, ← d.boards-is) (sym (head_bytes_lem bs d.head))

    -- and slots, boards, starts, boards of jobs, levels and names are such as can be written
    pub decoded-ok : TableOk t
    decoded-ok =
        let d = (decodes-to few bs t).0 decoded in
        let r = decoded-is bs few t decoded in
        record {
          slots-in = omega (arith, bytes-at bs bytes 4, d.slots-is);
          boards-in = omega (arith, bytes-at bs bytes 5, d.boards-is);
          rows_ok = rows-each t.rows (λ i h. subst RowOk (sym (decoded-row bs few t decoded i h)) (held i (r.0 i h)));
        }
      where
        held : (i : ℕ) → T (is_row bs (row_start bs i)) → RowOk (row_number bs i)
        held i h = unfold is_row row_number in let w = simp tests at h in row_ok (value bs (row_start bs i)) (bytes-value bs (row_start bs i) bytes) w.1.1

-- bytes decode to a table exactly where they are its bytes, it can be written, and it has as many rows as are allowed
pub decode-exactly : (few : ℕ → Bool) (bs : List ℕ) → Bytes bs → (t : Table)
    → (decode few bs ≡ got t) ↔ ((bs ≡ encode t) × TableOk t × T (few (length t.rows)))
decode-exactly few bs bytes t = (
  λ e. (sym (encode-decode bs bytes few t e), decoded-ok bs bytes few t e, ((decodes-to few bs t).0 e).few-rows),
  λ w. rw w.0 (decode-encode few t w.1 w.2),
)
