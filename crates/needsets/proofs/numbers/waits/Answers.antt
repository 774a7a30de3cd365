-- `needsets::numbers::waits` meets its contract. Assumes nothing.
use mathlib.Core.Path.{◌≡◌, sym, ap, ◌∙◌}
use mathlib.Core.Bool.{Bool, not, ◌&&◌}
use native.Mathlib.Omega.{arith}
use Rattle.rules.specs.SmallGates.{bit, need_bit}
use Rattle.needsets.specs.Sizes.{row-few}
use Rattle.needsets.specs.Marks.{waits_on}
use Rattle.needsets.proofs.numbers.waits.Goals as goal
use Rattle.needsets.proofs.numbers.waits.Goals.{After-is_set}

pub overflow_mul-giver : goal.overflow_mul-giver
overflow_mul-giver c = let a = c.args in omega (arith, row-few c.requires.0 a.giver c.requires.2)

pub overflow_add-giver : goal.overflow_add-giver
overflow_add-giver c = let a = c.args in omega (arith, row-few c.requires.0 a.giver c.requires.2)

pub is_set-requires : goal.is_set-requires
is_set-requires c = let a = c.args in omega (arith, row-few c.requires.0 a.giver c.requires.2)

-- by what the first test gives
by-need : (c : After-is_set) (b : Bool) → c.is_set.result ≡ b
    → let a = c.args in (b && not (bit a.marked a.giver)) ≡ waits_on a.jobs a.number a.marked a.job a.giver
unfolding waits_on need_bit
by-need c b e = let a = c.args in sym (ap (λ (z : Bool). z && not (bit a.marked a.giver)) (sym c.is_set.ensures ∙ e))

pub returns-then-not-is_set : goal.returns-then-not-is_set
returns-then-not-is_set c = by-need (goal.at.returns-then-not-is_set c).After-is_set _ (c.if-not-is_set.true)

pub returns : goal.returns
returns c = ap not c.is_set-2.ensures ∙ by-need (goal.at.returns c).After-is_set _ (c.if-not-is_set.false)
