-- `jobfile::read_fields` meets its contract. Assumes nothing.
use mathlib.Core.Path.{refl, sym, ◌∙◌}
use native.Mathlib.Omega.{arith}
use Rattle.std.proofs.lemmas.Result.{err_from_is_err_and}
use Rattle.fieldreader.specs.FieldFound.{stands, value-is, bounds}
use Rattle.jobfile.specs.FieldByField.{start-read, end_same, field-same-no}
use Rattle.jobfile.proofs.FieldByField.{value-same-no, value_read}
use Rattle.jobfile.proofs.read_fields.Goals as goal

pub loop-at-init : goal.loop-at-init
loop-at-init c = (start-read _ _ _ _ refl c.requires.2, refl)

pub returns-in_err-field : goal.returns-in_err-field
returns-in_err-field c =
    let i = c.loop-at.invariant in
    let p = err_from_is_err_and c.from_residual.result c.from_residual.ensures.1 in
    rw (p.1, p.2) (field-same-no i.0 c.loop-at-test.true _ (sym c.in_err-field.ensures), i.1)

pub slice_bounds-take_field-count : goal.slice_bounds-take_field-count
slice_bounds-take_field-count c = (bounds _ _ _ (stands _ _ _ _ (sym c.in_ok-field.ensures))).1

pub slice_bounds-take_field-start : goal.slice_bounds-take_field-start
slice_bounds-take_field-start c = (bounds _ _ _ (stands _ _ _ _ (sym c.in_ok-field.ensures))).1

pub slice_bounds-take_field-end : goal.slice_bounds-take_field-end
slice_bounds-take_field-end c = (bounds _ _ _ (stands _ _ _ _ (sym c.in_ok-field.ensures))).2

pub take_field-requires : goal.take_field-requires
take_field-requires c =
    let w = stands _ _ _ _ (sym c.in_ok-field.ensures) in
    let r = c.loop-at.invariant.0 in
    let p = c.requires.0 in
    let l = c.loop-at-test.true in
    (omega (arith, r.counted), r.held.few, omega arith, rw (w.tag_is, value-is _ _ _ w) w.length-ok, r.held.sizes.1)

pub returns-in_err-c : goal.returns-in_err-c
returns-in_err-c c =
    let i = c.loop-at.invariant in
    let w = c.in_err-c.ensures in
    let p = err_from_is_err_and c.from_residual-in_err-c.result c.from_residual-in_err-c.ensures.1 in
    rw (p.1, p.2) (value-same-no i.0 c.loop-at-test.true _ (sym c.in_ok-field.ensures) _ w.0, w.1 ∙ i.1)

pub loop-at-smaller : goal.loop-at-smaller
loop-at-smaller c = omega (arith, bounds _ _ _ (stands _ _ _ _ (sym c.in_ok-field.ensures)), c.loop-at-test.true)

pub loop-at-preserved : goal.loop-at-preserved
loop-at-preserved c =
    let i = c.loop-at.invariant in
    let w = c.in_ok-c.ensures in
    (value_read i.0 c.loop-at-test.true _ (sym c.in_ok-field.ensures) _ _ _ w.0, w.1 ∙ i.1)

pub returns : goal.returns
returns c = let i = c.loop-at.invariant in (end_same i.0 c.loop-at-test.false, i.1)
