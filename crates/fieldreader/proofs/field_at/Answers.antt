-- `fieldreader::field_at` meets its contract. Assumes nothing.
use Rattle.std.proofs.Common.{◌≡◌, ◌∙◌, sym, ◌&&◌, leb, true, false, arith}
use Rattle.std.proofs.lemmas.Grind.{common_steps}
use Rattle.std.proofs.lemmas.Result.{err_from_is_err_and}
use Rattle.laws.specs.Tests.{T_true}
use Rattle.laws.specs.Fields.{whole_is}
use Rattle.fieldreader.specs.FieldWays.{not-whole, unknown-tag, misplaced, wrong-length, found}
use Rattle.fieldreader.proofs.field_at.Goals as goal

pub returns-then-not-is_whole : goal.returns-then-not-is_whole
returns-then-not-is_whole c = not-whole _ _ _ (sym c.is_whole.ensures ∙ c.if-not-is_whole.true)

pub returns-in_err-row : goal.returns-in_err-row
returns-in_err-row c =
    let p = err_from_is_err_and c.from_residual.result c.from_residual.ensures.1 in
    let w = unknown-tag _ _ c.args.fields (sym c.is_whole.ensures ∙ c.if-not-is_whole.false) (sym c.row_of.ensures ∙ c.in_err-row.ensures.ok_part) in
    let v = rw c.in_err-row.ensures.ok_part at c.in_err-row.ensures.value in
    rw (p.1, p.2) (cc)

pub returns-then-not-in_place : goal.returns-then-not-in_place
returns-then-not-in_place c =
    misplaced _ _ _ (sym c.is_whole.ensures ∙ c.if-not-is_whole.false) _ (sym c.row_of.ensures ∙ c.in_ok-row.ensures.ok_part)
    (sym c.in_place.ensures ∙ c.if-not-in_place.true)

pub word_at-word-requires : goal.word_at-word-requires
word_at-word-requires c =
    omega (arith, (whole_is c.args.file.now c.args.at).0 ((T_true _).1 (sym c.is_whole.ensures ∙ c.if-not-is_whole.false)))

pub returns-then-not-contains : goal.returns-then-not-contains
returns-then-not-contains c =
    let row = sym c.row_of.ensures ∙ c.in_ok-row.ensures.ok_part in
    let e : leb c.in_ok-row.row.least c.from-len.result && leb c.from-len.result c.in_ok-row.row.greatest ≡ false = grind (arith, common_steps) in
    wrong-length _ _ _ (sym c.is_whole.ensures ∙ c.if-not-is_whole.false) _ row
    (sym c.in_place.ensures ∙ c.if-not-in_place.false) _ (c.from-len.ensures ∙ c.word_at-word.ensures) e

pub returns : goal.returns
returns c =
    let row = sym c.row_of.ensures ∙ c.in_ok-row.ensures.ok_part in
    let e : leb c.in_ok-row.row.least c.from-len.result && leb c.from-len.result c.in_ok-row.row.greatest ≡ true = grind (arith, common_steps) in
    found _ _ _ (sym c.is_whole.ensures ∙ c.if-not-is_whole.false) _ row
    (sym c.in_place.ensures ∙ c.if-not-in_place.false) _ (c.from-len.ensures ∙ c.word_at-word.ensures) e
