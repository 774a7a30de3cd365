-- `slotboards::place_rows` meets its contract. Assumes nothing.
use Rattle.std.proofs.Common.{◌≡◌, refl, sym, ◌∙◌, length, arith}
use Rattle.slotboards.specs.RowsLaws.{loaded-none, loaded-next, rows-plan, rows-placed, stored-none, stored_next}
use Rattle.slotboards.proofs.place_rows.Goals as goal

pub loop-i-init : goal.loop-i-init
loop-i-init c = c.blank_columns-c.ensures ∙ sym (loaded-none _)

pub loop-i-preserved : goal.loop-i-preserved
loop-i-preserved c = rw (c.with_start-c.ensures, c.loop-i.invariant) (loaded-next _ _)

pub place_columns-c-requires : goal.place_columns-c-requires
place_columns-c-requires c =
    let n : c.loop-i.i ≡ length c.args.rows.now = omega arith in
    rows-plan _ _ _ _ c.requires _ _ (rw n at c.loop-i.invariant) refl

pub loop-i-2-init : goal.loop-i-2-init
loop-i-2-init c = sym (stored-none _ _)

pub loop-i-2-preserved : goal.loop-i-2-preserved
loop-i-2-preserved c = rw (c.record_of.ensures, c.loop-i-2.invariant) (stored_next _ _ _)

pub returns : goal.returns
returns c =
    let n : c.loop-i.i ≡ length c.args.rows.now = omega arith in
    let l = c.loop-i.invariant in
    let e = c.place_columns-c.ensures in
    let d : c.loop-i-2.i ≡ length c.args.rows.now = omega arith in
    rw (c.loop-i-2.invariant, d) (rows-placed _ _ _ _ _ (rw (l, n) at e.0) (rw (l, n) at e.1))
