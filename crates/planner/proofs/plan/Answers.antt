-- `planner::plan` meets its contract. Assumes nothing.
use mathlib.Core.Path.{◌∙◌}
use native.Mathlib.Omega.{arith}
use lib.Seq.{length-take-le}
use Rattle.planner.specs.Asked.{short-work, short-table, full-buffers}
use Rattle.planner.proofs.plan.Goals as goal

pub returns-then-work-lt-WORK_BYTES : goal.returns-then-work-lt-WORK_BYTES
returns-then-work-lt-WORK_BYTES c = short-work _ _ _ c.if-work-lt-WORK_BYTES.true

pub returns-then-table-lt-TABLE_BYTES : goal.returns-then-table-lt-TABLE_BYTES
returns-then-table-lt-TABLE_BYTES c = short-table _ _ _ c.if-table-lt-TABLE_BYTES.true

pub plan_file-answer-requires : goal.plan_file-answer-requires
plan_file-answer-requires c =
    (omega (arith, length-take-le 65536 c.args.work.now c.if-work-lt-WORK_BYTES.false), c.if-table-lt-TABLE_BYTES.false)

pub returns : goal.returns
returns c =
    let p = c.plan_file-answer in
    let w = c.args.work.now in
    full-buffers _ w _ _ p.new.work _ _ c.if-work-lt-WORK_BYTES.false c.if-table-lt-TABLE_BYTES.false
    (p.auto.work ∙ length-take-le 65536 w c.if-work-lt-WORK_BYTES.false) c.clear.ensures p.ensures
