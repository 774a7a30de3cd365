-- `jobset::Set::is_one` meets its contract: each way out is one side of the definition's choice. Assumes nothing.
use borrow.Author.Tests.{eq-eqb, ne_eqb}
use Rattle.rules.specs.Basics.{choose}
use Rattle.jobset.specs.Sets.{is_one, is_empty}
use Rattle.jobset.proofs.Set.is_one.Goals as goal

pub returns-then-self-eq0 : goal.returns-then-self-eq0
unfolding is_one is_empty choose
returns-then-self-eq0 c = simp (eq-eqb _ _ c.if-self-eq0.true)

pub returns-else-self-eq0 : goal.returns-else-self-eq0
unfolding is_one is_empty choose
returns-else-self-eq0 c = simp (ne_eqb _ _ c.if-self-eq0.false)
