-- `seats::clear_due` meets its contract. Assumes nothing.
use Rattle.std.proofs.Common.{◌≡◌, ◌+◌, ◌-◌, replicate, ap, ◌∙◌, arith, rules}
use borrow.Rule.Slice.PartMut.{put_mid}
use Rattle.layout.specs.Layout.{due_at}
use Rattle.seats.proofs.Parts.{due_filled}
use Rattle.seats.proofs.clear_due.Goals as goal

pub returns : goal.returns
returns c =
    let a = c.args in
    let n : due_at + a.slots + 1 - due_at ≡ a.slots + 1 = omega arith in
    let zeros : c.fill.new.self ≡ replicate (a.slots + 1) 0 = search rules in
    rw n (ap (put_mid due_at (a.slots + 1) a.tables.now) zeros ∙ due_filled a.tables.now (a.slots + 1) (omega arith))
