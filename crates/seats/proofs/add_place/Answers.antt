-- `seats::add_place` meets its contract. Assumes nothing.
use mathlib.Core.Path.{◌≡◌, ap, ◌∙◌}
use native.Mathlib.Omega.{arith}
use lib.ListN.{set}
use Rattle.jobset.specs.Sets.{set_at, with}
use Rattle.jobset.specs.declared.Set.{Set}
use Rattle.jobset.specs.Bounds.{with-lt}
use Rattle.seats.specs.Words.{with_place}
use Rattle.seats.proofs.add_place.Goals as goal
use Rattle.seats.proofs.add_place.Goals.{After-with-after}

-- the set with the place
after : (c : After-with-after) → c.with-after.result ≡ with
    (set_at c.args.tables.now c.args.i) c.args.place
after c = c.with-after.ensures ∙ ap (λ (s : Set). with s c.args.place) c.set_at-before.ensures

pub overflow_cast-tables : goal.overflow_cast-tables
overflow_cast-tables c =
    let e = ap (λ (s : Set). s.bits) (after (goal.at.overflow_cast-tables c).After-with-after) in
    omega (
      arith,
      with-lt 8 (set_at c.args.tables.now c.args.i)
          c.args.place c.requires.2 c.requires.1,
    )

pub returns : goal.returns
unfolding with_place
returns c = ap (λ (s : Set). set c.args.tables.now c.args.i s.bits) (after (goal.at.returns c).After-with-after)
