-- `writer::write_table` meets its contract. Assumes nothing.
use Rattle.std.proofs.Common.{◌≡◌, ◌∙◌, refl, ap, arith, ◌+◌, ◌≤◌, length, length-drop, length-take}
use Rattle.rules.specs.Fields.{value}
use Rattle.rules.specs.Basics.{at}
use Rattle.writer.specs.TableLaws.{bytes-so-far, head-written, head-length, row-turn, all-written}
use Rattle.writer.proofs.write_table.Goals as goal
use Rattle.writer.proofs.write_table.Goals.{After-value_at-v}

room : (c : After-value_at-v) → c.loop-i.at + 19 ≤ length c.loop-i.table
room c =
    let p = c.requires in
    let v = c.loop-i.invariant in
    let k = bytes-so-far _ _ c.args.starts.now c.args.boards.now c.args.slots c.args.count _ p.2 c.loop-i.i (omega arith) in
    let h = head-length _ _ c.args.table.now _ c.put_head.ensures (omega arith) in
    omega (arith, v.1.size, c.loop-i-test.true, c.loop-i.auto.table)

value-is : (c : After-value_at-v) → c.value_at-v.result.now ≡ value c.args.file.now (at c.args.offsets.now c.loop-i.i)
value-is c = c.value_at-v.ensures ∙ ap (value c.args.file.now) c.from.ensures

pub loop-i-init : goal.loop-i-init
loop-i-init c = (omega arith, head-written _ _ _ _ _ _ c.args.table.now _ c.put_head.ensures)

pub put_row-size-requires : goal.put_row-size-requires
put_row-size-requires c =
    let at-value = (goal.at.put_row-size-requires c).After-value_at-v in
    let p = c.requires in
    let h = c.loop-i-test.true in
    let r = room at-value in
    (rw (value-is at-value) (p.2.long _ h), rw (value-is at-value) (p.2.short _ h), simp (length-take, length-drop) (omega arith))

pub loop-i-preserved : goal.loop-i-preserved
loop-i-preserved c =
    let at-value = (goal.at.loop-i-preserved c).After-value_at-v in
    let p = c.requires in
    let h = c.loop-i-test.true in
    let r = room at-value in
    let short = p.2.short _ h in
    let long = p.2.long _ h in (
      omega arith,
      row-turn _ _ _ _ _ _ c.loop-i.i _ _ _ _ _ _ _ c.loop-i.invariant.1 (value-is at-value) (omega (arith, c.loop-i.auto.table)) (rw (value-is at-value) short)
          (rw (value-is at-value) (omega arith)) c.put_row-size.ensures.size refl c.put_row-size.ensures.bytes,
    )

pub returns : goal.returns
returns c =
    let v = c.loop-i.invariant in
    let e : c.loop-i.i ≡ c.args.jobs = omega (arith, c.loop-i-test.false) in record {
      size = rw (← e) v.1.size;
      bytes = rw (← e) (all-written _ _ _ _ _ _ c.loop-i.i c.args.table.now _ _ _ c.put_head.ensures v.0 v.1);
    }
