-- `jobfile::take_sockets` meets its contract. Assumes nothing.
use Rattle.std.proofs.Common.{◌≡◌, ◌≤◌, ◌∙◌, sym, true, false, ◌&&◌, leb, arith}
use Rattle.std.proofs.lemmas.Grind.{common_steps}
use Rattle.rules.specs.Basics.{choose, at}
use Rattle.rules.specs.Fields.{ask}
use Rattle.rules.specs.JobFile.{content_ok, is_need}
use Rattle.jobfile.specs.Reading.{counted_more, take_sockets, take_field}
use Rattle.jobfile.proofs.Holding.{given-some}
use Rattle.jobfile.proofs.take_sockets.Goals as goal

pub returns-then-not-contains : goal.returns-then-not-contains
unfolding is_need take_field content_ok ask choose
returns-then-not-contains c a o rows =
    let no : leb 1 (at c.args.v.now 0) && leb (at c.args.v.now 0) 8 ≡ false = grind (arith, common_steps) in
    simp no

pub returns-then-is_some : goal.returns-then-is_some
unfolding is_need take_field take_sockets content_ok ask choose
returns-then-is_some c a o rows =
    let yes : leb 1 (at c.args.v.now 0) && leb (at c.args.v.now 0) 8 ≡ true = grind (arith, common_steps) in
    simp (yes, sym c.is_some.ensures ∙ c.if-is_some.true)

pub returns : goal.returns
unfolding counted_more is_need take_field take_sockets content_ok ask choose
returns c a o rows =
    let yes : leb 1 (at c.args.v.now 0) && leb (at c.args.v.now 0) 8 ≡ true = grind (arith, common_steps) in
    let positive : 1 ≤ at c.args.v.now 0 = grind (arith, common_steps) in
    let some = given-some (at c.args.v.now 0) positive in
    simp (c.counted.ensures, yes, some, sym c.is_some.ensures ∙ c.if-is_some.false)
