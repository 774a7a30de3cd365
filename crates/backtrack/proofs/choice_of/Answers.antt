-- `backtrack::choice_of` meets its contract. Assumes nothing.
use mathlib.Core.Path.{sym, ◌∙◌}
use Rattle.rules.specs.Basics.{choose}
use Rattle.backtrack.specs.Choosing.{choice_of}
use Rattle.backtrack.proofs.choice_of.Goals as goal

pub returns-then-exceeds : goal.returns-then-exceeds
unfolding choice_of choose
returns-then-exceeds c =
    rw (
      sym c.exceeds.ensures ∙ c.if-exceeds.true,
      c.union.ensures,
      c.from.ensures,
    )

pub returns : goal.returns
unfolding choice_of choose
returns c = rw (sym c.exceeds.ensures ∙ c.if-exceeds.false, c.count.ensures)
