-- `seats::entries` meets its contract. Assumes nothing.
use Rattle.std.proofs.Common.{ℕ, ◌+◌, min, take, ap, ◌∙◌, arith, rules, tests}
use Rattle.std.specs.Option.{unwrap_or}
use Rattle.std.proofs.lemmas.Iterator.{YieldsList-from_map, YieldsList-from_slice}
use Rattle.std.proofs.lemmas.Iterator.Consumers.{reduce_from_yields_List}
use Rattle.std.proofs.lemmas.List.Folds.{max_of_map}
use Rattle.seats.proofs.Parts.{fold-most}
use Rattle.seats.proofs.entries.Goals as goal

pub returns : goal.returns
returns c =
    let a = c.args in
    let f : ℕ → ℕ = λ x. min (x + 1) a.limit in
    let firsts = take a.jobs a.release.now in
    let r = reduce_from_yields_List _ _ c.max.result c.max.ensures.ran
    (YieldsList-from_map _ f (YieldsList-from_slice firsts (cc)) c.map.ensures.closure (λ x r q k. search (rules, tests))) in
    c.unwrap_or.ensures ∙ ap (λ o. unwrap_or o 0) r ∙ max_of_map f firsts ∙ fold-most f a.release.now a.jobs (omega arith)
