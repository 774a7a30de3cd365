-- `slotstates::Ranks::ranked` meets its contract. Assumes nothing.
use Rattle.std.proofs.Common.{◌≡◌, ◌<◌, arith}
use Rattle.std.proofs.lemmas.Grind.{common_steps}
use Rattle.slotstates.specs.Ranks.{ranked-later, ranked-earlier, ranked-now}
use Rattle.slotstates.proofs.Ranks.ranked.Goals as goal

pub returns-in-Less : goal.returns-in-Less
returns-in-Less c = let later : c.args.slot < c.args.start = grind (arith, common_steps) in ranked-later _ _ _ later

pub returns-in-Greater : goal.returns-in-Greater
returns-in-Greater c =
    let earlier : c.args.start < c.args.slot = grind (arith, common_steps) in ranked-earlier _ _ _ (omega arith) _ c.with.ensures earlier

pub returns-in-Equal : goal.returns-in-Equal
returns-in-Equal c =
    let now : c.args.slot ≡ c.args.start = grind (arith, common_steps) in
    ranked-now _ _ _ (omega arith) _ c.with-in-Equal.ensures (omega arith) _ c.with-in-Equal-2.ensures
