-- `questions::all_positive` meets its contract. Assumes nothing.
use Rattle.std.proofs.Common.{◌∙◌, leb, rules}
use Rattle.std.proofs.lemmas.Iterator.{YieldsList-from_slice}
use Rattle.std.proofs.lemmas.Iterator.Search.{all_from_yields_List}
use borrow.Author.Tests.{tests}
use Rattle.questions.specs.Loops.{all-is}
use Rattle.questions.proofs.all_positive.Goals as goal

pub returns : goal.returns
returns c =
    all_from_yields_List (leb 1) _ _ _ c.all.ensures.ran (YieldsList-from_slice c.args.list.now cc) (λ x b q k. search (rules, tests))
    ∙ all-is (leb 1) c.args.list.now
