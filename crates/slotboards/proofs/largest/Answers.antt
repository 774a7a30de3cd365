-- `slotboards::largest` meets its contract. Assumes nothing.
use Rattle.std.proofs.Common.{take, ap, ◌∙◌, arith}
use Rattle.std.specs.Option.{unwrap_or}
use Rattle.std.proofs.lemmas.Iterator.{YieldsList-from_slice}
use Rattle.std.proofs.lemmas.Iterator.Consumers.{reduce_from_yields_List, YieldsList-from_copied}
use Rattle.std.proofs.lemmas.List.Folds.{max_of_map}
use Rattle.slotboards.proofs.Firsts.{map-same, fold-most}
use Rattle.slotboards.proofs.largest.Goals as goal

pub returns : goal.returns
returns c =
    let firsts = take c.args.jobs c.args.boards.now in
    let r = reduce_from_yields_List _ _ c.max.result c.max.ensures.ran (YieldsList-from_copied (YieldsList-from_slice firsts (cc))) in
    let m = rw (map-same firsts) at (max_of_map (λ x. x) firsts) in
    c.from.ensures ∙ c.unwrap_or.ensures ∙ ap (λ o. unwrap_or o 0) r ∙ m ∙ fold-most c.args.boards.now c.args.jobs (omega arith)
