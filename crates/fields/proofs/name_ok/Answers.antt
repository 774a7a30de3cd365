-- `fields::name_ok` meets its contract. Assumes nothing.
use Rattle.std.proofs.Common.{rules, ◌≡◌, true, false, ◌∙◌, arith, drop, length-drop}
use Rattle.std.proofs.Math.Seq.{take_all}
use borrow.Author.Tests.{tests}
use Rattle.std.proofs.lemmas.Iterator.{cases_from_all, YieldsList-from_slice}
use Rattle.rules.specs.JobFile.{name_byte}
use Rattle.fields.proofs.Runs.{all_by}
use Rattle.fields.proofs.name_ok.Goals as goal

pub returns : goal.returns
unfolding name_byte
returns c =
    let name = drop 2 c.args.v.now in
    let whole = c.iter.ensures.rest ∙ take_all _ name (omega (arith, length-drop 2 c.args.v.now)) in
    all_by name_byte c.all.result name
    (cases_from_all _ _ _ (λ x. name_byte x ≡ true) (λ x. name_byte x ≡ false) c.all.ensures.ran (YieldsList-from_slice name whole)
    (λ x q k. search (rules, tests)) (λ x q k. search (rules, tests)))
