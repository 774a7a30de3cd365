-- `jobfile::take_job` meets its contract. Assumes nothing.
use mathlib.Core.Path.{refl, sym, ◌∙◌}
use native.Mathlib.Omega.{arith}
use borrow.Author.Tests.{lt-ltb, le-ltb}
use Rattle.rules.specs.Basics.{choose}
use Rattle.rules.specs.Fields.{ask}
use Rattle.rules.specs.JobFile.{content_ok}
use Rattle.needrows.specs.Laws.{length-without_row}
use Rattle.jobfile.specs.Reading.{counted_more, take_field}
use Rattle.jobfile.proofs.take_job.Goals as goal

pub returns-then-not-name_ok : goal.returns-then-not-name_ok
unfolding take_field content_ok ask choose
returns-then-not-name_ok c = (simp (sym c.name_ok.ensures ∙ c.if-not-name_ok.true), refl)

pub returns-then-jobs-ge-MAX_JOBS : goal.returns-then-jobs-ge-MAX_JOBS
unfolding take_field content_ok ask choose
returns-then-jobs-ge-MAX_JOBS c = (
  simp (sym c.name_ok.ensures ∙ c.if-not-name_ok.false, le-ltb _ _ c.if-jobs-ge-MAX_JOBS.true),
  refl,
)

pub returns : goal.returns
unfolding counted_more take_field content_ok ask choose
returns c =
    let cleared = c.clear_row.ensures in (
      simp (
        c.counted.ensures,
        cleared,
        sym c.name_ok.ensures
            ∙ c.if-not-name_ok.false,
        lt-ltb _ _ c.if-jobs-ge-MAX_JOBS.false,
      ),
      rw cleared (length-without_row _ _ (let p = c.requires.4 in
          omega (arith, c.if-jobs-ge-MAX_JOBS.false))),
    )
