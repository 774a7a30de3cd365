-- The rows of a table, read one after the other: the invariant of the reader, and the table that it ends with. Assumes nothing.
use Rattle.std.proofs.Math.Path.{◌≡◌, refl, sym, ap, subst}
use Rattle.std.proofs.Common.{◌∙◌, add-one, length-append, get_or-take, get_or-drop, get_or-set_same, get_or-set_other}
use Rattle.std.specs.Prelude.{Option, Some, None, Bool, ◌&&◌, ℕ, suc, ◌+◌, ◌-◌, ◌*◌, ◌≤◌, ◌<◌, length, take, drop, set, T, eqb}
use mathlib.Core.List.{List, [], ◌∷◌, ◌++◌}
use native.Mathlib.Omega.{arith}
use Rattle.std.proofs.Math.Decide.{ℕ_discrete}
use Rattle.std.proofs.Math.ListN.{length-set}
use Rattle.std.proofs.Math.Seq.{take-suc-set}
use Rattle.rules.specs.Sizes.{max_jobs}
use Rattle.rules.specs.Basics.{at, tabulate}
use Rattle.rules.specs.Fields.{Answer, refused, got, ask, after, part, field_end, value, whole, over_fields}
use Rattle.rules.specs.JobFile.{name_ok}
use Rattle.rules.specs.Table.{Row, Table, row_of, read_row, head_ok, decode, row_start}
use Rattle.laws.specs.Tests.{T_false, by-choice}
use Rattle.laws.specs.Lists.{length-tabulate, tabulate-last}
use Rattle.laws.specs.Fields.{ask-got, after-got, ask-yes, whole_is, after-head, length-value, over_fields-step, over_fields-end, over_fields-keeps}
use Rattle.laws.specs.Refusals.{Refusal, decode-number}
use Rattle.laws.specs.Table.{all_rows}
use Rattle.laws.specs.Decoded.{is_row, row_number}
use Rattle.rows.specs.Rows.{row_answer, Few}
use Rattle.rows.specs.RowWays.{IsRow, row_is}

-- byte i of a value
pub value-byte : (bs : List ℕ) (a i : ℕ) → i < length (value bs a) → T (whole bs a) → at (value bs a) i ≡ at bs (a + 3 + i)
unfolding value part
value-byte bs a i h t = get_or-take (field_end bs a - (a + 3)) (drop (a + 3) bs) i 0 (omega (arith, length-value bs a t)) ∙ get_or-drop (a + 3) bs i 0

-- ---- all rows

module _ (bs : List ℕ) (a : ℕ) where
  -- what the answer of the row reader says
  unfoldable Says : Option ℕ → Type 0
  Says (Some e) = T (is_row bs a) × (e ≡ field_end bs a)
  Says None = T (is_row bs a) → ⊥

  says : Says (row_answer bs a)
  unfolding row_answer Says
  says = by-choice Says (is_row bs a) (λ t. (t, refl)) (λ n. n)

  row-said : (e : ℕ) → row_answer bs a ≡ Some e → T (is_row bs a) × (e ≡ field_end bs a)
  unfolding Says
  row-said e q = subst Says q says

  row-refused : row_answer bs a ≡ None → T (is_row bs a) → ⊥
  unfolding Says
  row-refused q = subst Says q says

-- no table of at most 400 rows is decoded where all rows, if there are any, are more
not-decoded : (bs : List ℕ) → ((rows : List Row) → all_rows bs ≡ got rows → max_jobs < length rows) → (few : ℕ → Bool) → Few few → decode few bs ≡ refused 14
unfolding decode Refusal
not-decoded bs many few h = go (decode few bs) refl (decode-number (λ q. q ≡ 14) refl few bs)
  where
    none : (t : Table) → decode few bs ≡ got t → ⊥
    none t e =
        let d = ask-got (head_ok bs) 14 _ t e in
        let w = after-got (all_rows bs) _ t d.1 in
        let f = ask-got (few (length w.0)) 14 _ t w.2 in
        omega (arith, many w.0 w.1, h (length w.0) f.0)

    go : (x : Answer Table) → decode few bs ≡ x → Refusal (λ q. q ≡ 14) x → x ≡ refused 14
    go (refused q) e r = ap refused r
    go (got t) e r = absurd (none t e)

-- ---- the invariant: the n rows before offset a have been read into the arrays

pub record ReadTo (bs : List ℕ) (o s b : List ℕ) (n a : ℕ) : Type 0 where
  pub here : a ≡ row_start bs n
  pub inside : a ≤ length bs
  pub near : a ≤ 6 + 19 * n
  pub few : n ≤ max_jobs
  pub sizes : (length o ≡ max_jobs) × (length s ≡ max_jobs) × (length b ≡ max_jobs)
  pub room : ℕ
  pub enough : length bs - a ≤ room
  pub to-come : over_fields (read_row bs) room bs a (tabulate (row_number bs) n 0) ≡ all_rows bs
  pub rows_are : (i : ℕ) → i < n → T (is_row bs (row_start bs i))
  pub offsets_are : (i : ℕ) → i < n → at o i ≡ row_start bs i
  pub starts-are : take n s ≡ tabulate (λ i. (row_number bs i).start) n 0
  pub boards-are : take n b ≡ tabulate (λ i. (row_number bs i).board) n 0

pub start-read : (bs o s b : List ℕ) → (length o ≡ max_jobs) × (length s ≡ max_jobs) × (length b ≡ max_jobs) → 6 ≤ length bs → ReadTo bs o s b 0 6
unfolding row_start tabulate
start-read bs o s b sizes h = record {
  here = refl;
  inside = h;
  near = omega arith;
  few = omega arith;
  sizes = sizes;
  room = length bs;
  enough = omega arith;
  to-come = refl;
  rows_are = λ i l. absurd (omega arith);
  offsets_are = λ i l. absurd (omega arith);
  starts-are = refl;
  boards-are = refl;
}

module _ (bs : List ℕ) (o s b : List ℕ) (n a : ℕ) (r : ReadTo bs o s b n a) where
  pub end-rows : length bs ≤ a → all_rows bs ≡ got (tabulate (row_number bs) n 0)
  end-rows h = sym r.to-come ∙ over_fields-end (read_row bs) r.room bs a (tabulate (row_number bs) n 0) h

  module _ (h : a < length bs) where
    -- the field at a, and what follows it
    split : (j : ℕ) × (length bs - field_end bs a ≤ j)
        × (all_rows bs ≡ after (read_row bs (tabulate (row_number bs) n 0) a) (λ t. over_fields (read_row bs) j bs (field_end bs a) t))
    split = let p = over_fields-step (read_row bs) r.room bs a (tabulate (row_number bs) n 0) h r.enough in (p.0, p.1, sym r.to-come ∙ p.2)

    pub refuses : row_answer bs a ≡ None → (few : ℕ → Bool) → Few few → decode few bs ≡ refused 14
    unfolding after ask read_row is_row
    refuses no_row = not-decoded bs (λ rows e. absurd (let z : ◌≡◌ {A = ℕ} 0 1 = cc (sym e ∙ bad) in omega arith))
      where
        bad : all_rows bs ≡ refused 14
        bad = split.2 ∙ rw (T_false (is_row bs a) (row-refused bs a no_row)) refl

    pub one-too-many : n ≡ max_jobs → (few : ℕ → Bool) → Few few → decode few bs ≡ refused 14
    unfolding read_row
    one-too-many full = not-decoded bs (λ rows e. more rows (after-got (read_row bs before a) _ rows (sym split.2 ∙ e)))
      where
        before : List Row
        before = tabulate (row_number bs) n 0

        longer : (u v : List Row) (c : ℕ) → max_jobs ≤ length u → read_row bs u c ≡ got v → max_jobs < length v
        longer u v c l e =
            let w = ask-got (whole bs c && (eqb (at bs c) 17 && name_ok (drop 4 (value bs c)))) 14 (got (u ++ row_of (value bs c) ∷ [])) v e in
            let q : u ++ row_of (value bs c) ∷ [] ≡ v = cc w.1 in
            omega (arith, ap length q, length-append u (row_of (value bs c) ∷ []))

        more : (rows : List Row) → (t : List Row) × (read_row bs before a ≡ got t) × (over_fields (read_row bs) split.0 bs (field_end bs a) t ≡ got rows)
            → max_jobs < length rows
        more rows w =
            over_fields-keeps (read_row bs) (λ u. max_jobs < length u) (λ u v c l e. longer u v c (omega arith) e) split.0 bs (field_end bs a) w.0 rows
            (longer before w.0 a (omega (arith, length-tabulate (row_number bs) n 0)) w.1) w.2

    module _ (e : ℕ) (found : row_answer bs a ≡ Some e) (not_full : n ≡ max_jobs → ⊥) where
      is-row : T (is_row bs a)
      is-row = (row-said bs a e found).0

      fits : IsRow bs a
      fits = (row_is bs a).0 is-row

      ends : (field_end bs a ≤ length bs) × (field_end bs a ≡ a + 3 + length (value bs a))
      ends = omega (arith, (whole_is bs a).0 fits.is_whole, after-head bs a, length-value bs a fits.is_whole)

      -- there is room for it, its offset is small, and its fixed bytes are in the table
      pub row_in : (n < max_jobs) × (a < 65536) × (a + 4 < length bs) × (a < e)
      row_in = omega (arith, ends, fits.sizes, r.few, r.near, (row-said bs a e found).1)

      start-byte : at bs (a + 3) ≡ (row_number bs n).start
      unfolding row_number row_of
      start-byte = rw (← r.here) (sym (value-byte bs a 0 (omega (arith, fits.sizes)) fits.is_whole ∙ let e : a + 3 + 0 ≡ a + 3 = omega arith in
          rw e refl))

      board-byte : at bs (a + 4) ≡ (row_number bs n).board
      unfolding row_number row_of
      board-byte = rw (← r.here) (sym (value-byte bs a 1 (omega (arith, fits.sizes)) fits.is_whole ∙ let e : a + 3 + 1 ≡ a + 4 = omega arith in
          rw e refl))

      rows_next : tabulate (row_number bs) n 0 ++ row_of (value bs a) ∷ [] ≡ tabulate (row_number bs) (suc n) 0
      unfolding row_number
      rows_next = rw r.here (sym (tabulate-last (row_number bs) n))

      -- one row more
      pub row_read : ReadTo bs (set o n a) (set s n (at bs (a + 3))) (set b n (at bs (a + 4))) (n + 1) e
      unfolding row_start after read_row is_row
      row_read = rw (add-one, (row-said bs a e found).1) record {
        here = ap (field_end bs) r.here;
        inside = ends.0;
        near = omega (arith, ends, fits.sizes, r.near);
        few = omega (arith, row_in);
        sizes = (length-set o n a ∙ r.sizes.0, length-set s n _ ∙ r.sizes.1, length-set b n _ ∙ r.sizes.2);
        room = split.0;
        enough = split.1;
        to-come = sym (split.2 ∙ step);
        rows_are = λ i l. row i l (ℕ_discrete i n);
        offsets_are = λ i l. offset i l (ℕ_discrete i n);
        starts-are = take-suc-set s n _ (omega (arith, r.sizes, row_in)) ∙ rw (r.starts-are, start-byte) (sym (tabulate-last (λ i. (row_number bs i).start) n));
        boards-are = take-suc-set b n _ (omega (arith, r.sizes, row_in)) ∙ rw (r.boards-are, board-byte) (sym (tabulate-last (λ i. (row_number bs i).board) n));
      }
        where
          step : after (read_row bs (tabulate (row_number bs) n 0) a) (λ t. over_fields (read_row bs) split.0 bs (field_end bs a) t)
              ≡ over_fields (read_row bs) split.0 bs (field_end bs a) (tabulate (row_number bs) (suc n) 0)
          step = ap (λ x. after x (λ t. over_fields (read_row bs) split.0 bs (field_end bs a) t)) (ask-yes (is_row bs a) 14 _ is-row ∙ ap got rows_next)

          row : (i : ℕ) → i < suc n → Dec (i ≡ n) → T (is_row bs (row_start bs i))
          row i l (yes e) = rw (e, ← r.here) is-row
          row i l (no e) = r.rows_are i (omega arith)

          offset : (i : ℕ) → i < suc n → Dec (i ≡ n) → at (set o n a) i ≡ row_start bs i
          offset i l (yes e) = rw (e, get_or-set_same o n a 0 (omega (arith, r.sizes, row_in))) r.here
          offset i l (no e) = rw (get_or-set_other o n i a 0 e) (r.offsets_are i (omega arith))
