-- `jobfile::take_header` meets its contract. Assumes nothing.
use borrow.Author.Tests.{eq-eqb, ne_eqb}
use Rattle.rules.specs.Basics.{choose}
use Rattle.rules.specs.Fields.{ask}
use Rattle.rules.specs.JobFile.{content_ok, is_need}
use Rattle.jobfile.specs.Reading.{counted_more, take_field}
use Rattle.jobfile.proofs.take_header.Goals as goal

pub returns-then-v-ne1 : goal.returns-then-v-ne1
unfolding is_need take_field content_ok ask choose
returns-then-v-ne1 c a o rows = simp (ne_eqb _ _ c.if-v-ne1.true)

pub returns : goal.returns
unfolding counted_more is_need take_field content_ok ask choose
returns c a o rows = simp (c.counted.ensures, eq-eqb _ _ c.if-v-ne1.false)
