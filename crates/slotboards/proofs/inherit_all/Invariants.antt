use Rattle.std.proofs.Common.{◌≡◌, ℕ, ◌<◌}
use mathlib.Core.List.{Memᴰ}
use Rattle.rules.specs.Sizes.{max_width, max_jobs}
use Rattle.jobset.specs.Sets.{members}
use Rattle.layout.specs.Layout.{tables_in}
use Rattle.slotboards.specs.Placing.{filling, inherit, leave, each, Below64}
use Rattle.slotboards.proofs.inherit_all.Given as goal

-- the places that are left, with what there is now, lead to what all of them lead to
abbrev pub invariant-loop-p : goal.invariant-loop-p
invariant-loop-p l =
    let A = tables_in l.tables in
    let left = members l.p-iterator.rest in
    Below64 l.boards × ((q : ℕ) → Memᴰ q left → (q < max_width) × (A.who l.slot q < max_jobs))
    × (each (inherit A l.slot l.last) left (filling l.z.free l.boards)
    ≡ each (inherit A l.slot l.last) (members l.fn.jobs) (filling l.initial.z.free l.initial.boards))
    × (each (leave A l.slot l.last) left l.z.others ≡ each (leave A l.slot l.last) (members l.fn.jobs) l.initial.z.others)
