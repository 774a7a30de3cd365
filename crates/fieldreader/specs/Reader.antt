-- What each function of the field reader gives. Assumes nothing.
use Rattle.std.specs.Prelude.{List, ℕ, ◌+◌, length, Option, Some, None, Result, Ok, Err}
use Rattle.rules.specs.Basics.{choose, at}
use Rattle.rules.specs.Fields.{field_end, value, whole}
use Rattle.rules.specs.JobFile.{field_row, known_tag, in_place, length_ok}
use Rattle.rules.specs.JobFile as rules
use Rattle.refusals.specs.declared.Refusal.{Refusal}
use Rattle.refusals.specs.declared.Refusal.TheVariants.{CutField, UnknownTag, MisplacedTag, BadValue}
use Rattle.fieldreader.specs.declared.FieldRow.{FieldRow}
use Rattle.fieldreader.specs.declared.Field.{Field}

-- a row of the rules' table, as the code has it
abbrev pub as_row : rules.FieldRow → FieldRow
as_row r = record { tag = r.tag; least = r.least; greatest = r.greatest }

-- the row of the rules' table that a known tag has
unfoldable pub row_of : ℕ → Option FieldRow
row_of tag = choose (known_tag tag) (Some (as_row (field_row tag))) None

-- questions 3 to 5 of the field at offset a behind `fields` others, and 6 of its length
unfoldable pub field_at : List ℕ → ℕ → ℕ → Result Field Refusal
field_at bs a fields =
    choose (whole bs a)
    (choose (known_tag (at bs a))
    (choose (in_place fields (at bs a))
    (choose (length_ok (at bs a) (length (value bs a)))
    (Ok (record { tag = at bs a; start = a + 3; end = field_end bs a })) (Err BadValue)) (Err MisplacedTag)) (Err UnknownTag)) (Err CutField)
