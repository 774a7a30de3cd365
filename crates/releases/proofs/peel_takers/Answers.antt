-- `releases::peel_takers` meets its contract: before each turn, to peel the takers that are left gives the same as to peel all. Assumes nothing.
use Rattle.std.proofs.Common.{◌∷◌, refl, sym, ap, ◌∙◌, arith}
use mathlib.Core.List.Memᴰ
use Rattle.releases.specs.Peels.{Peel, peel_of, peel_all, left}
use Rattle.releases.specs.Ready.{Ready, ready-count, ready-turn}
use Rattle.releases.proofs.peel_takers.Goals as goal
use Rattle.releases.proofs.peel_takers.Goals.{In-Some}

-- the state at the start of a turn
now-is : (c : In-Some) → Peel
now-is c = let l = c.loop-taker in peel_of l.release l.waits l.order l.entered

-- the takers that are left, the next one first
ready : (c : In-Some) → Ready c.args.jobs (c.in-Some.taker ∷ left c.next.new.self) (now-is c)
unfolding now-is
ready c = rw c.in-Some.ensures.steps at c.loop-taker.invariant.0

pub peel_need-entered-requires : goal.peel_need-entered-requires
unfolding now-is
peel_need-entered-requires c =
    let r = ready (goal.at.peel_need-entered-requires c).In-Some in
    let next = Memᴰ.head refl in (
      omega (arith, r.in-jobs c.in-Some.taker next, r.jobs-few),
      omega (arith, ready-count _ c.args.slot _ _ _ r, r.jobs-few),
      r.waiting c.in-Some.taker next,
      c.requires.2,
    )

pub loop-taker-preserved : goal.loop-taker-preserved
unfolding peel_all now-is
loop-taker-preserved c =
    let a = c.args in
    let d = (goal.at.loop-taker-preserved c).In-Some in
    rw c.peel_need-entered.ensures (
      ready-turn a.jobs a.slot _ _ (now-is d) (ready d),
      sym (ap (λ xs. peel_all a.slot xs (now-is d)) c.in-Some.ensures.steps) ∙ c.loop-taker.invariant.1,
    )

pub returns : goal.returns
unfolding peel_all
returns c =
    let l = c.loop-taker in
    sym (ap (λ xs. peel_all c.args.slot xs (peel_of l.release l.waits l.order l.entered)) c.in-None.ensures.steps.0) ∙ l.invariant.1
