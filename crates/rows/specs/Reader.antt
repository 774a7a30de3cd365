-- The answers of the reader of a table. Assumes nothing.
use Rattle.std.specs.Prelude.{◌≡◌, Bool, false, Some, None, List, ℕ, ◌≤◌, length, T}
use Rattle.std.proofs.Math.Path.{refl, sym}
use Rattle.std.proofs.Common.{◌∙◌, subst}
use Rattle.rules.specs.Basics.{at}
use Rattle.rules.specs.Fields.{refused, got, ask, after}
use Rattle.rules.specs.Table.{Row, head_ok, decode}
use Rattle.laws.specs.Lists.{length-tabulate, map-tabulate}
use Rattle.laws.specs.Fields.{ask-yes}
use Rattle.laws.specs.Decoded.{row_number, decoded_table}
use Rattle.rows.specs.Rows.{Few, RowsRead, Decodes}
use Rattle.rows.specs.RowByRow.{ReadTo, end-rows}

some-same : {A : Type 0} {a b : A} → Some a ≡ Some b → a ≡ b
some-same e = cc

-- the reader refuses
pub refused-read : (bs : List ℕ) (o s b : List ℕ) → ((few : ℕ → Bool) → Few few → decode few bs ≡ refused 14) → Decodes bs None o s b
refused-read bs o s b h = record { held = λ rows e. cc; not-read = λ _. h }

pub no-head : (bs : List ℕ) → head_ok bs ≡ false → (few : ℕ → Bool) → Few few → decode few bs ≡ refused 14
unfolding decode ask
no-head bs e few h = rw e refl

-- the reader has come to the end
module _ (bs : List ℕ) (head : T (head_ok bs)) (o s b : List ℕ) (n a : ℕ) (r : ReadTo bs o s b n a) (end : length bs ≤ a) where
  decoded : (few : ℕ → Bool) → decode few bs ≡ ask (few n) 14 (got (decoded_table bs n))
  unfolding decode decoded_table after
  decoded few = ask-yes (head_ok bs) 14 _ head ∙ rw (end-rows bs o s b n a r end, length-tabulate (row_number bs) n 0) refl

  pub table-read : (sl bo : ℕ) → sl ≡ at bs 4 → bo ≡ at bs 5 → Decodes bs (Some (record { slots = sl; boards = bo; count = n })) o s b
  unfolding decoded_table
  table-read sl bo p q = record {
    held = λ rows e. subst (λ v. RowsRead bs v o s b) (some-same e) record {
      decoded = decoded;
      slots-is = p;
      boards-is = q;
      count-in = r.few;
      sizes = r.sizes;
      rows_are = r.rows_are;
      offsets_are = r.offsets_are;
      starts-are = r.starts-are ∙ sym (map-tabulate (λ (w : Row). w.start) (row_number bs) n 0);
      boards-are = r.boards-are ∙ sym (map-tabulate (λ (w : Row). w.board) (row_number bs) n 0);
    };
    not-read = λ e. cc;
  }
