-- `seats::link_job` meets its contract. Assumes nothing.
use mathlib.Core.Path.{sym}
use Prim.Native.Nat.{◌+◌}
use native.Mathlib.Omega.{arith}
use lib.Dec.{ltb}
use lib.ListN.{set}
use Rattle.rules.specs.Basics.{at}
use Rattle.laws.specs.Tests.{T-ltb, choose_yes, choose_no}
use Rattle.seats.proofs.link_job.Goals as goal

pub returns-then-slot-limit : goal.returns-then-slot-limit
returns-then-slot-limit c =
    let a = c.args in
    let t = (T-ltb a.slot a.limit).1 c.if-slot-limit.true in (
      sym (choose_yes (ltb a.slot a.limit) (set a.first.now a.slot (a.job + 1)) a.first.now t),
      sym (choose_yes (ltb a.slot a.limit) (set a.next.now a.job (at a.first.now a.slot)) a.next.now t),
    )

pub returns-else-slot-limit : goal.returns-else-slot-limit
returns-else-slot-limit c =
    let a = c.args in (
      sym (choose_no (ltb a.slot a.limit) (set a.first.now a.slot (a.job + 1)) a.first.now
          (λ t. omega (arith, (T-ltb a.slot a.limit).0 t))),
      sym (choose_no (ltb a.slot a.limit) (set a.next.now a.job (at a.first.now a.slot)) a.next.now
          (λ t. omega (arith, (T-ltb a.slot a.limit).0 t))),
    )
