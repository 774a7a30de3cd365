-- `implied::add_takers` meets its contract: before each turn what the takers that are left lead to is to come. Assumes nothing.
use Rattle.std.proofs.Common.{[], ◌∷◌, refl}
use mathlib.Core.List.Memᴰ
use Rattle.implied.specs.Joining.{join_more, join-end, still-there}
use Rattle.implied.proofs.add_takers.Goals as goal

pub add_taker-requires : goal.add_taker-requires
add_taker-requires c =
    let w = c.loop-taker.invariant in
    let next = w.others c.in-Some.taker (rw c.in-Some.ensures.steps (Memᴰ.head refl)) in
    (still-there w c.requires.0, c.requires.1, next.0, next.1)

pub loop-taker-preserved : goal.loop-taker-preserved
loop-taker-preserved c = join_more c.loop-taker.invariant (c.in-Some.taker ∷ []) _ _ c.in-Some.ensures.steps c.add_taker.ensures

pub returns : goal.returns
returns c = join-end c.loop-taker.invariant c.in-None.ensures.steps.0
