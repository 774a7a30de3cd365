-- `jobfile::take_limit` meets its contract. Assumes nothing.
use Rattle.std.proofs.Common.{◌≡◌, true, false, ◌&&◌, leb, arith}
use Rattle.std.proofs.lemmas.Grind.{common_steps}
use Rattle.rules.specs.Basics.{choose, at}
use Rattle.rules.specs.Fields.{ask}
use Rattle.rules.specs.JobFile.{content_ok}
use Rattle.jobfile.specs.Reading.{counted_more, take_field}
use Rattle.jobfile.proofs.take_limit.Goals as goal

pub returns-then-not-contains : goal.returns-then-not-contains
unfolding take_field content_ok ask choose
returns-then-not-contains c a o rows =
    let no : leb 1 (at c.args.v.now 0) && leb (at c.args.v.now 0) 64 ≡ false = grind (arith, common_steps) in
    simp no

pub returns : goal.returns
unfolding counted_more take_field content_ok ask choose
returns c a o rows =
    let yes : leb 1 (at c.args.v.now 0) && leb (at c.args.v.now 0) 64 ≡ true = grind (arith, common_steps) in
    simp (c.counted.ensures, c.from-limit.ensures, yes)
