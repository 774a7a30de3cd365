-- `jobfile::take_need` meets its contract. Assumes nothing.
use mathlib.Core.Path.{refl, sym, ◌∙◌}
use native.Mathlib.Omega.{arith}
use Rattle.needrows.specs.Laws.{length-add}
use Rattle.jobfile.specs.Reading.{counted_more, linked}
use Rattle.jobfile.specs.NeedWays.{is-job-in, no-giver, no-taker, same-job, need-linked}
use Rattle.jobfile.proofs.take_need.Goals as goal

pub returns-then-not-is_job : goal.returns-then-not-is_job
returns-then-not-is_job c = (λ o. sym (no-giver _ _ _ (sym c.is_job.ensures ∙ c.if-not-is_job.true)), refl)

pub returns-then-not-is_job-2 : goal.returns-then-not-is_job-2
returns-then-not-is_job-2 c = (
  λ o. sym (no-taker _ _ _ (sym c.is_job.ensures ∙ c.if-not-is_job.false) (sym c.is_job-2.ensures ∙ c.if-not-is_job-2.true)),
  refl,
)

pub returns-then-giver-taker : goal.returns-then-giver-taker
returns-then-giver-taker c = (
  λ o. sym (same-job _ _ _ (sym c.is_job.ensures ∙ c.if-not-is_job.false) (sym c.is_job-2.ensures ∙ c.if-not-is_job-2.false) c.if-giver-taker.true),
  refl,
)

pub overflow_sub-giver : goal.overflow_sub-giver
overflow_sub-giver c = (is-job-in _ _ (sym c.is_job.ensures ∙ c.if-not-is_job.false)).0

pub overflow_sub-taker : goal.overflow_sub-taker
overflow_sub-taker c = (is-job-in _ _ (sym c.is_job-2.ensures ∙ c.if-not-is_job-2.false)).0

pub add-requires : goal.add-requires
add-requires c =
    let g = is-job-in _ _ (sym c.is_job.ensures ∙ c.if-not-is_job.false) in
    let k = is-job-in _ _ (sym c.is_job-2.ensures ∙ c.if-not-is_job-2.false) in
    let p = c.requires in
    omega (arith, p.1, p.2)

pub returns : goal.returns
unfolding counted_more linked
returns c =
    let a = c.add.ensures in (
      λ o. sym (need-linked _ _ _ (sym c.is_job.ensures ∙ c.if-not-is_job.false) (sym c.is_job-2.ensures ∙ c.if-not-is_job-2.false) c.if-giver-taker.false
          ∙ rw (c.counted.ensures, a) refl),
      rw a (length-add _ _ _),
    )
