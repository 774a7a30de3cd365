-- A turn of the loop over the fields: what the field reader and the readers of its value answer, and what is still to come. Assumes nothing.
-- More of what holds: proofs/FieldByField.antt.
use Rattle.std.specs.Prelude.{◌≡◌, List, ℕ, ◌-◌, ◌≤◌, ◌<◌, length, Ok, Err}
use Rattle.std.proofs.Math.Path.{refl, sym, ap}
use Rattle.std.proofs.Common.{◌∙◌, arith}
use mathlib.Core.List.Memᴰ
use Rattle.rules.specs.Sizes.{max_jobs}
use Rattle.rules.specs.Fields.{Answer, refused, got, after, field_end, over_fields}
use Rattle.rules.specs.JobFile.{JobFile, read_field, no_fields}
use Rattle.laws.specs.Fields.{over_fields-step, over_fields-end}
use Rattle.needrows.specs.Rows.{rows_size}
use Rattle.refusals.specs.declared.Refusal.{Refusal}
use Rattle.refusals.specs.Refusals.{number}
use Rattle.fieldreader.specs.Reader.{field_at}
use Rattle.fieldreader.specs.FieldFound.{on_field, field-first}
use Rattle.jobfile.specs.declared.Counts.{Counts}
use Rattle.jobfile.specs.Reading.{state_of, initial, answer_of, Held, Same}

-- ---- a turn of the loop: what is still to come from offset a on is what was to come at the start

-- all fields of the file
abbrev pub all_fields : List ℕ → Answer JobFile
all_fields bs = over_fields (read_field bs) (length bs) bs 0 no_fields

-- f has been read, and the rest of the fields gives the whole
pub record ToCome (bs : List ℕ) (a : ℕ) (f : JobFile) : Type 0 where
  pub room : ℕ
  pub enough : length bs - a ≤ room
  pub rest : over_fields (read_field bs) room bs a f ≡ all_fields bs

module _ (bs : List ℕ) (a : ℕ) (f : JobFile) (next : ToCome bs a f) where
  all_read : length bs ≤ a → all_fields bs ≡ got f
  all_read h = sym next.rest ∙ over_fields-end (read_field bs) next.room bs a f h

  module _ (h : a < length bs) where
    field-refuses : (q : Refusal) → field_at bs a f.fields ≡ Err q → all_fields bs ≡ refused (number q)
    unfolding on_field after
    field-refuses q e =
        let p = over_fields-step (read_field bs) next.room bs a f h next.enough in
        sym next.rest ∙ p.2 ∙ ap (λ (r : Answer JobFile). after r (λ g. over_fields (read_field bs) p.0 bs (field_end bs a) g)) (field-first bs f a
        ∙ ap (on_field bs f a) e)

-- ---- the start

-- before the first field, whatever the rows hold
pub start-held : (bs offsets rows : List ℕ) → length offsets ≡ max_jobs → rows_size ≤ length rows → Held bs no_fields (initial offsets rows)
unfolding no_fields
start-held bs offsets rows len size = record {
  fields-is = refl;
  limit_is = refl;
  sockets-is = refl;
  jobs-is = refl;
  few = omega arith;
  sizes = (len, size);
  offsets-whole = λ i h. absurd (omega arith);
  offsets_are = λ i h. absurd (omega arith);
  needs-in = λ g k m. absurd (Memᴰ.not-nil m);
  rows_are = λ g k h. absurd (omega arith);
}

-- ---- a field that is taken is counted

-- ---- the loop's invariant: the fields before offset a have been read into counts, offsets and rows
pub record ReadTo (bs : List ℕ) (c : Counts) (o rows : List ℕ) (a : ℕ) : Type 0 where
  pub counted : c.fields ≤ a
  pub inside : a ≤ length bs
  pub file : JobFile
  pub held : Held bs file (state_of c o rows)
  pub to-come : ToCome bs a file

-- before the first field
pub start-read : (bs o rows : List ℕ) (c : Counts) → c.fields ≡ 0 → Held bs no_fields (state_of c o rows) → ReadTo bs c o rows 0
start-read bs o rows c z h = record {
  counted = omega arith;
  inside = omega arith;
  file = no_fields;
  held = h;
  to-come = record { room = length bs; enough = omega arith; rest = refl };
}

module _ {bs o rows : List ℕ} {c : Counts} {a : ℕ} (r : ReadTo bs c o rows a) where
  -- there is no field left
  pub end_same : length bs ≤ a → Same bs (all_fields bs) (answer_of (Ok c) o rows)
  unfolding Same
  end_same h = rw (all_read bs a r.file r.to-come h) r.held

  module _ (h : a < length bs) where
    -- there is one, and its reader refuses it
    pub field-same-no : (q : Refusal) → field_at bs a c.fields ≡ Err q → Same bs (all_fields bs) (refused (number q))
    unfolding Same
    field-same-no q e = rw (field-refuses bs a r.file r.to-come h q (rw (← r.held.fields-is) e)) refl
