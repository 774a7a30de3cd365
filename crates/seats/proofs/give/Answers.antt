-- `seats::give` meets its contract. Assumes nothing.
use mathlib.Core.Path.{◌≡◌, sym, ap, ◌∙◌}
use Prim.Native.Nat.{ℕ}
use native.Mathlib.Omega.{arith}
use lib.Dec.{leb}
use lib.ListN.{set}
use Rattle.laws.specs.Tests.{T-leb, choose_yes, choose_no}
use Rattle.jobset.specs.Sets.{set_at, with}
use Rattle.jobset.specs.declared.Set.{Set}
use Rattle.jobset.specs.Bounds.{with-lt}
use Rattle.seats.specs.Give.{gave}
use Rattle.seats.specs.Words.{with_place}
use Rattle.seats.proofs.give.Goals as goal
use Rattle.seats.proofs.give.Goals.{After-with-after}

-- the set with the place
after : (c : After-with-after) → c.with-after.result ≡ with
    (set_at c.args.givers.now c.args.taker)
    c.args.place
after c = c.with-after.ensures ∙ ap (λ (x : ℕ). with (record { bits = x }) c.args.place)
    c.of_byte-before.ensures.0

pub overflow_cast-givers : goal.overflow_cast-givers
overflow_cast-givers c =
    let e = ap (λ (s : Set). s.bits) (after (goal.at.overflow_cast-givers c).After-with-after) in
    let b = c.of_byte-before.ensures in
    omega (
      arith,
      with-lt 8 (set_at c.args.givers.now c.args.taker)
          c.args.place (omega arith) c.requires.1,
    )

pub returns-then-entry-last : goal.returns-then-entry-last
unfolding gave with_place
returns-then-entry-last c =
    let a = c.args in
    ap (λ (s : Set). set a.givers.now a.taker s.bits) (after (goal.at.returns-then-entry-last c).After-with-after)
    ∙ sym (choose_yes (leb a.entry a.last) (with_place a.givers.now a.taker a.place) a.givers.now
    ((T-leb a.entry a.last).1 c.if-entry-last.true))

pub returns-else-entry-last : goal.returns-else-entry-last
unfolding gave
returns-else-entry-last c =
    let a = c.args in
    sym (choose_no (leb a.entry a.last) (with_place a.givers.now a.taker a.place) a.givers.now
    (λ t. omega (arith, (T-leb a.entry a.last).0 t)))
