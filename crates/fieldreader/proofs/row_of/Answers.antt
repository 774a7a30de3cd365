-- `fieldreader::row_of` meets its contract: the row that the tag picks is its own, where it has the tag. Assumes nothing.
use Rattle.std.proofs.Common.{◌≡◌, refl, sym, ap, ◌∙◌, arith}
use borrow.Author.Tests.{ne_eqb}
use Rattle.rules.specs.Basics.{choose, any}
use Rattle.rules.specs.JobFile.{field_rows, first_row, field_row, known_tag}
use Rattle.fieldreader.specs.declared.FieldRow.{FieldRow}
use Rattle.fieldreader.specs.Reader.{row_of}
use Rattle.fieldreader.proofs.row_of.Goals as goal
use Rattle.fieldreader.proofs.row_of.Goals.{in-1, in-2, in-3, in-4, in-5, in-6, in_default}

pub returns-then-row-tag : goal.returns-then-row-tag
unfolding row_of known_tag field_row first_row field_rows any choose
returns-then-row-tag c = elim c.match-tag.branch [
  | in-1 w ↦ rw (w.row-is, w.in-1.is) refl
  | in-2 w ↦ rw (w.row-is, w.in-2.is) refl
  | in-3 w ↦ rw (w.row-is, w.in-3.is) refl
  | in-4 w ↦ rw (w.row-is, w.in-4.is) refl
  | in-5 w ↦ rw (w.row-is, w.in-5.is) refl
  | in-6 w ↦ rw (w.row-is, w.in-6.is) refl
  | in_default w ↦ let e : 9 ≡ c.args.tag = sym (ap (λ (r : FieldRow). r.tag) w.row-is) ∙ c.if-row-tag.true in rw (w.row-is, ← e) refl
]

pub returns-else-row-tag : goal.returns-else-row-tag
unfolding row_of known_tag field_row first_row field_rows any choose
returns-else-row-tag c = elim c.match-tag.branch [
  | in-1 w ↦ absurd (c.if-row-tag.false (ap (λ (r : FieldRow). r.tag) w.row-is ∙ sym w.in-1.is))
  | in-2 w ↦ absurd (c.if-row-tag.false (ap (λ (r : FieldRow). r.tag) w.row-is ∙ sym w.in-2.is))
  | in-3 w ↦ absurd (c.if-row-tag.false (ap (λ (r : FieldRow). r.tag) w.row-is ∙ sym w.in-3.is))
  | in-4 w ↦ absurd (c.if-row-tag.false (ap (λ (r : FieldRow). r.tag) w.row-is ∙ sym w.in-4.is))
  | in-5 w ↦ absurd (c.if-row-tag.false (ap (λ (r : FieldRow). r.tag) w.row-is ∙ sym w.in-5.is))
  | in-6 w ↦ absurd (c.if-row-tag.false (ap (λ (r : FieldRow). r.tag) w.row-is ∙ sym w.in-6.is))
  | in_default w ↦ let e = ap (λ (r : FieldRow). r.tag) w.row-is in let d = w.in_default in
      simp (
        ne_eqb 1 c.args.tag (λ e. omega (arith, d)),
        ne_eqb 2 c.args.tag (λ e. omega (arith, d)),
        ne_eqb 3 c.args.tag (λ e. omega (arith, d)),
        ne_eqb 4 c.args.tag (λ e. omega (arith, d)),
        ne_eqb 5 c.args.tag (λ e. omega (arith, d)),
        ne_eqb 6 c.args.tag (λ e. omega (arith, d)),
        ne_eqb 9 c.args.tag (λ k. c.if-row-tag.false (e ∙ k)),
      )
]
