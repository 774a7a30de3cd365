-- `rows::read_rows` meets its contract. Assumes nothing.
use Rattle.std.proofs.Common.{◌≡◌, ◌∙◌, sym, ◌<◌, ◌+◌, length, arith, Some, rules}
use Rattle.rules.specs.Sizes.{max_jobs}
use Rattle.laws.specs.Tests.{T_true}
use Rattle.rows.specs.RowWays.{head-long}
use Rattle.rows.specs.Rows.{row_answer}
use Rattle.rows.specs.RowByRow.{start-read, refuses, one-too-many, row_in, row_read}
use Rattle.rows.specs.Reader.{refused-read, no-head, table-read}
use Rattle.rows.proofs.read_rows.Goals as goal
use Rattle.rows.proofs.read_rows.Goals.{In_ok-end, After-head_ok}

-- a row was found
found : (c : In_ok-end) → row_answer c.args.table.now c.loop-at.at ≡ Some c.in_ok-end.end
found c = sym c.row_at.ensures ∙ c.in_ok-end.was

-- the row that is found lies in the table, and is one of at most 400
lies : (c : In_ok-end) →
    let l = c.loop-at in
    (l.count < max_jobs) × (l.at < 65536) × (l.at + 4 < length c.args.table.now) × (l.at < c.in_ok-end.end)
lies c = row_in _ _ _ _ _ _ c.loop-at.invariant c.loop-at-test.true _ (found c) c.if-count-eq-MAX_JOBS.false

pub returns-then-not-head_ok : goal.returns-then-not-head_ok
returns-then-not-head_ok c = refused-read _ _ _ _ (no-head _ (sym c.head_ok.ensures ∙ c.if-not-head_ok.true))

pub loop-at-init : goal.loop-at-init
loop-at-init c = start-read _ _ _ _ c.requires (head-long _ ((T_true _).1 (sym c.head_ok.ensures ∙ c.if-not-head_ok.false)))

pub returns-then-count-eq-MAX_JOBS : goal.returns-then-count-eq-MAX_JOBS
returns-then-count-eq-MAX_JOBS c =
    refused-read _ _ _ _ (one-too-many _ _ _ _ _ _ c.loop-at.invariant c.loop-at-test.true c.if-count-eq-MAX_JOBS.true)

pub returns-in_err-end : goal.returns-in_err-end
returns-in_err-end c =
    rw c.from_residual.ensures
    (refused-read _ _ _ _ (refuses _ _ _ _ _ _ c.loop-at.invariant c.loop-at-test.true (sym c.row_at.ensures ∙ c.in_err-end.was)))

pub bounds-table-at : goal.bounds-table-at
bounds-table-at c = let h = lies (goal.at.bounds-table-at c).In_ok-end in omega arith

pub bounds-table-at-in-loop-at : goal.bounds-table-at-in-loop-at
bounds-table-at-in-loop-at c = let h = lies (goal.at.bounds-table-at-in-loop-at c).In_ok-end in omega arith

pub loop-at-smaller : goal.loop-at-smaller
loop-at-smaller c = let h = lies (goal.at.loop-at-smaller c).In_ok-end in omega arith

pub loop-at-preserved : goal.loop-at-preserved
loop-at-preserved c =
    row_read _ _ _ _ _ _ c.loop-at.invariant c.loop-at-test.true _ (found (goal.at.loop-at-preserved c).In_ok-end) c.if-count-eq-MAX_JOBS.false

pub bounds-table-4 : goal.bounds-table-4
bounds-table-4 c = let h = head-long _ ((T_true _).1 (sym c.head_ok.ensures ∙ c.if-not-head_ok.false)) in search rules

pub bounds-table-5 : goal.bounds-table-5
bounds-table-5 c = let h = head-long _ ((T_true _).1 (sym c.head_ok.ensures ∙ c.if-not-head_ok.false)) in search rules

pub returns : goal.returns
returns c =
    table-read _ ((T_true _).1 (sym c.head_ok.ensures ∙ c.if-not-head_ok.false)) _ _ _ _ _ c.loop-at.invariant c.loop-at-test.false
    _ _ c.from.ensures c.from-2.ensures
