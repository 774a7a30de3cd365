-- `releases::tail_of` meets its contract: before each turn, the takers that are left raise the code to the same as all do. Assumes nothing.
use Rattle.std.proofs.Common.{ℕ, ◌+◌, ◌<◌, ◌∷◌, refl, sym, ap, ◌∙◌, arith}
use mathlib.Core.List.{Memᴰ}
use Rattle.rules.specs.Sizes.{max_jobs}
use Rattle.rules.specs.Basics.{at}
use Rattle.releases.specs.Codes.{slot_bound, behind, raised_over}
use Rattle.releases.specs.Peels.{left}
use Rattle.releases.specs.Tails.{tail_over}
use Rattle.releases.proofs.tail_of.Goals as goal
use Rattle.releases.proofs.tail_of.Goals.{In-Some}

-- the takers that are left, the next one first, are indices with small tails
known : (c : In-Some) → (k : ℕ) → Memᴰ k (c.in-Some.taker ∷ left c.next.new.self) → (k < max_jobs) × (at c.args.tail.now k + 1 < slot_bound)
known c = rw c.in-Some.ensures.steps at c.loop-taker.invariant.0

-- and so is the next
next : (c : In-Some) → (c.in-Some.taker < max_jobs) × (at c.args.tail.now c.in-Some.taker + 1 < slot_bound)
next c = known c c.in-Some.taker (Memᴰ.head refl)

pub offset_bounds-tail-taker : goal.offset_bounds-tail-taker
offset_bounds-tail-taker c = omega (arith, next (goal.at.offset_bounds-tail-taker c).In-Some)

pub bounds-tail-taker : goal.bounds-tail-taker
bounds-tail-taker c = (next (goal.at.bounds-tail-taker c).In-Some).0

pub overflow_add-tail : goal.overflow_add-tail
overflow_add-tail c = omega (arith, next (goal.at.overflow_add-tail c).In-Some)

pub raised-code-requires : goal.raised-code-requires
raised-code-requires c = omega (arith, next (goal.at.raised-code-requires c).In-Some)

pub loop-taker-preserved : goal.loop-taker-preserved
unfolding raised_over
loop-taker-preserved c =
    let l = c.loop-taker in
    rw c.raised-code.ensures (
      λ k m. known (goal.at.loop-taker-preserved c).In-Some k (Memᴰ.tail m),
      sym (ap (raised_over (at c.args.tail.now) l.code) c.in-Some.ensures.steps) ∙ l.invariant.1,
    )

pub returns : goal.returns
unfolding tail_over raised_over
returns c =
    let l = c.loop-taker in
    c.behind.ensures ∙ ap behind (sym (ap (raised_over (at c.args.tail.now) l.code) c.in-None.ensures.steps.0) ∙ l.invariant.1)
