-- `releases::count_takers` meets its contract: before each turn, to count the takers that are left gives the same as to count all. Assumes nothing.
use Rattle.std.proofs.Common.{◌+◌, sym, ap, ◌∙◌, arith}
use Rattle.releases.specs.Peels.{each, left}
use Rattle.releases.specs.Counted.{CountTurn, countable-first}
use Rattle.releases.proofs.count_takers.Goals as goal
use Rattle.releases.proofs.count_takers.Goals.{In-Some}

-- the next taker, and those behind it
turned : (c : In-Some) → CountTurn c.in-Some.taker (left c.next.new.self) c.loop-taker.waits
turned c = countable-first _ _ c.in-Some.ensures.steps c.loop-taker.invariant.0

pub offset_bounds-waits-taker : goal.offset_bounds-waits-taker
offset_bounds-waits-taker c = omega (arith, turned (goal.at.offset_bounds-waits-taker c).In-Some)

pub bounds-waits-taker : goal.bounds-waits-taker
bounds-waits-taker c = (turned (goal.at.bounds-waits-taker c).In-Some).in-jobs

pub overflow_add-waits : goal.overflow_add-waits
overflow_add-waits c = omega (arith, (turned (goal.at.overflow_add-waits c).In-Some).small)

pub bounds-waits-taker-in-loop-taker : goal.bounds-waits-taker-in-loop-taker
bounds-waits-taker-in-loop-taker c = (turned (goal.at.bounds-waits-taker-in-loop-taker c).In-Some).in-jobs

pub loop-taker-preserved : goal.loop-taker-preserved
unfolding each
loop-taker-preserved c =
    let l = c.loop-taker in (
      (turned (goal.at.loop-taker-preserved c).In-Some).others,
      sym (ap (λ xs. each (◌+ 1) xs l.waits) c.in-Some.ensures.steps) ∙ l.invariant.1,
    )

pub returns : goal.returns
unfolding each
returns c =
    let l = c.loop-taker in
    sym (ap (λ xs. each (◌+ 1) xs l.waits) c.in-None.ensures.steps.0) ∙ l.invariant.1
