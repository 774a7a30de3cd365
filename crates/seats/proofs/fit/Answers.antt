-- `seats::fit` meets its contract. The tables have so many slots as the loop's index says; then the due sets. Assumes nothing.
use mathlib.Core.Path.{◌≡◌, refl, ◌∙◌}
use Prim.Native.Nat.{suc, ◌+◌, ◌-◌}
use native.Mathlib.Numerals.{add-one}
use native.Mathlib.Omega.{arith}
use Rattle.layout.specs.Layout.{cap_at}
use Rattle.seats.specs.Carry.{carried-is}
use Rattle.seats.specs.Due.{without-small, due_sets}
use Rattle.seats.specs.Filled.{filled-mark, filled-carry, fitting-place, fitting-tail, fitted}
use Rattle.seats.proofs.fit.Goals as goal

pub loop-slot-init : goal.loop-slot-init
loop-slot-init c = (λ W Q. Q.rows, refl)

pub carry-requires : goal.carry-requires
carry-requires c =
    let p = c.requires in
    let F = c.loop-slot.invariant.0 p.0 p.1 in
    (omega (arith, p.1.some), omega (arith, p.1.few), filled-mark F (omega (arith, p.1.few)), (p.0.n, F.rows.small))

pub loop-slot-preserved : goal.loop-slot-preserved
loop-slot-preserved c =
    let l = c.loop-slot in
    let p = c.requires in
    let few = p.1.few in
    let e : l.slot ≡ suc (l.slot - 1) = omega (arith, p.1.some) in
    let b = carried-is p.0.n l.tables (l.slot - 1) l.slot e (omega arith) (l.invariant.0 p.0 p.1).rows.small in (
      λ W Q. rw (add-one l.slot, c.carry.ensures) (filled-carry Q.leads (l.slot - 1) e (omega (arith, Q.few)) (l.invariant.0 W Q)),
      rw c.carry.ensures (b.other cap_at (λ z. omega arith) (λ z. omega arith) (λ q h z. omega arith) (λ q h z. omega arith)) ∙ l.invariant.1,
    )

pub clear_due-requires : goal.clear_due-requires
clear_due-requires c = c.requires.1.few

pub set_due-requires : goal.set_due-requires
set_due-requires c =
    let l = c.loop-slot in
    let p = c.requires in
    let Q = p.1 in (
      Q.few,
      Q.jobs-fit,
      λ i h. (fitting-place Q i h, fitting-tail Q i h),
      (
        p.0.n,
        rw c.clear_due.ensures
            (without-small p.0.n l.tables (c.args.slots + 1) (omega (arith, Q.few))
            (l.invariant.0 p.0 Q).rows.small),
      ),
    )

pub overflow_cast-tables : goal.overflow_cast-tables
overflow_cast-tables c = omega (arith, c.requires.1.few)

pub returns : goal.returns
unfolding due_sets
returns c =
    let l = c.loop-slot in
    let more = c.requires.1.more in
    let e : l.slot ≡ c.args.slots = omega arith in
    λ W Q. rw (c.set_due.ensures, c.clear_due.ensures) (fitted Q (rw e at (l.invariant.0 W Q)) l.invariant.1)
