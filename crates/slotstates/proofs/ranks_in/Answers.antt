-- `slotstates::ranks_in` meets its contract. Assumes nothing.
use Rattle.std.proofs.Common.{◌≡◌, ap, ◌∙◌, ℕ, ◌-◌, arith}
use Rattle.laws.specs.Width.{window}
use Rattle.slotstates.specs.Ranks.{ranked, ranked-start, ranked-end}
use Rattle.slotstates.proofs.Jobs.{job-yes, job-no}
use Rattle.slotstates.proofs.ranks_in.Goals as goal
use Rattle.slotstates.proofs.ranks_in.Goals.{then-holds, else-holds}

pub loop-job-init : goal.loop-job-init
loop-job-init c = let e : c.args.jobs - 0 ≡ c.args.jobs = omega arith in rw e (ranked-start _ _ c.requires.2)

pub ranked-ranks-requires : goal.ranked-ranks-requires
unfolding window
ranked-ranks-requires c = (job-yes _ _ _ c.loop-job.invariant c.loop-job-test.true _ c.holds.ensures c.if-holds.true).0

pub loop-job-preserved : goal.loop-job-preserved
unfolding window
loop-job-preserved c =
    let l = c.loop-job in
    elim c.if-holds.branch [
      | then-holds w ↦
          (job-yes _ _ _ l.invariant c.loop-job-test.true _ c.holds.ensures w.if-holds.true).1 _
          (w.ranks-is ∙ w.ranked-ranks.ensures ∙ ap (λ (s : ℕ). ranked c.args.slot s l.ranks) w.from.ensures)
      | else-holds w ↦ rw w.ranks-is (job-no _ _ _ l.invariant c.loop-job-test.true _ c.holds.ensures w.if-holds.false)
    ]

pub returns : goal.returns
returns c = ranked-end _ _ c.loop-job.invariant (omega (arith, c.loop-job-test.false))
