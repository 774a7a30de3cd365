-- `seats::seat` meets its contract. Assumes nothing.
use mathlib.Core.List.{List}
use mathlib.Core.Path.{ap, ◌∙◌}
use Prim.Native.Nat.{ℕ, ◌+◌, ◌*◌}
use native.Mathlib.Omega.{arith}
use lib.ListN.{set}
use Rattle.layout.specs.Layout.{held_at, ends_at, prev_at, who_at}
use Rattle.seats.specs.Words.{Small, with_place, small-place, seated}
use Rattle.seats.proofs.seat.Goals as goal

pub add_place-requires : goal.add_place-requires
add_place-requires c = let p = c.requires in (omega arith, omega arith, p.4.1.sets (held_at + c.args.slot) (omega arith))

pub add_place-requires-2 : goal.add_place-requires-2
add_place-requires-2 c =
    let p = c.requires in
    let a = c.args in
    let s : Small p.4.0 c.add_place.new.tables = rw c.add_place.ensures
    (small-place p.4.0 a.tables.now (held_at + a.slot) a.place p.4.1 (omega arith) (omega arith)) in
    (omega arith, omega arith, s.sets (ends_at + a.last) (omega arith))

pub returns : goal.returns
unfolding seated
returns c =
    let a = c.args in (
      ap (λ (l : List ℕ). set (set l (prev_at + 8 * a.slot + a.place) a.before) (who_at + 8 * a.slot + a.place) a.job)
          (c.add_place-2.ensures ∙ ap (λ (l : List ℕ). with_place l (ends_at + a.last) a.place) c.add_place.ensures),
      omega (arith, c.ranges),
    )
