-- `seats::put_threes` meets its contract: the constant is the table. Assumes nothing.
use Rattle.std.proofs.Common.{◌≡◌, ◌+◌, ℕ, List, refl, arith, add-one, ap₂, set}
use Rattle.layout.specs.Layout.{three_at}
use Rattle.threes.specs.Table.{table}
use Rattle.threes.proofs.Table.{table_is}
use Rattle.seats.specs.Words.{with_row, with_threes}
use Rattle.seats.proofs.put_threes.Goals as goal

pub loop-byte-init : goal.loop-byte-init
unfolding with_row
loop-byte-init c = (omega arith, refl)

pub loop-byte-preserved : goal.loop-byte-preserved
unfolding with_row table
loop-byte-preserved c =
    let l = c.loop-byte in
    let h = c.loop-byte-test.true in
    (omega arith, rw (add-one l.byte) (ap₂ (λ (x : List ℕ) (v : ℕ). set x (three_at + l.byte) v) l.invariant.1 (table_is l.byte h)))

pub returns : goal.returns
unfolding with_threes
returns c =
    let l = c.loop-byte in
    let h = c.loop-byte-test.false in
    let e : l.byte ≡ 256 = omega arith in
    rw e at l.invariant.1
