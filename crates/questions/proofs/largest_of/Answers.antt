-- `questions::largest_of` meets its contract. Assumes nothing.
use Rattle.std.proofs.Common.{◌≡◌, ◌∙◌, sym, max}
use Rattle.std.specs.List.{reduce}
use Rattle.std.proofs.lemmas.Iterator.{YieldsList-from_slice}
use Rattle.std.proofs.lemmas.Iterator.Adapters.{option_map_id}
use Rattle.std.proofs.lemmas.Iterator.Consumers.{max_from_yields_List, YieldsList-from_copied}
use Rattle.questions.specs.Loops.{largest_is}
use Rattle.questions.proofs.largest_of.Goals as goal

pub returns : goal.returns
returns c =
    let h : c.max.result ≡ reduce max c.args.list.now =
    sym (option_map_id _) ∙ max_from_yields_List c.copied.result _ c.max.ensures.ran (YieldsList-from_copied (YieldsList-from_slice c.args.list.now cc)) in
    let e = largest_is c.args.list.now in
    cc
