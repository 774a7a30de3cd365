-- `statenumbers::state_numbers` meets its contract. Assumes nothing.
use mathlib.Core.Path.{◌≡◌, refl, sym, ◌∙◌}
use native.Mathlib.Omega.{arith}
use lib.ListN.{length, take, drop}
use lib.Seq.{length-take-le}
use Rattle.std.proofs.Common.{Ok, Err}
use Rattle.std.proofs.lemmas.Result.{err_from_is_err_and}
use Rattle.statenumbers.specs.Answer.{PlanCalled, short-states, same_outcome, refusal-leaves, planned-for, size_in}
use Rattle.statenumbers.specs.Answer.{work_in, work-again, front_long, table-outcome, reports}
use Rattle.statenumbers.proofs.state_numbers.Goals as goal
use Rattle.statenumbers.proofs.state_numbers.Goals.{In_ok-size}

-- what the planner was lent, and that it left a table
abbrev called : In_ok-size → PlanCalled
called c =
    let a = c.args in
    record {
      file = a.file.now;
      work = a.work.now;
      table = a.table.now;
      states = a.states.now;
      answer = Ok c.in_ok-size.size;
      work-left = c.plan.new.work;
      table-left = c.plan.new.table;
      room = omega (arith, c.if-states-lt-STATE_BYTES.false);
      answered = c.in_ok-size.ensures;
    }

-- the part of the working buffer that is lent is as long as it says
lent : (c : In_ok-size) → length (take 22400 c.plan.new.work) ≡ 22400
lent c = length-take-le 22400 c.plan.new.work (work_in (called c) _ refl)

pub returns-then-states-lt-STATE_BYTES : goal.returns-then-states-lt-STATE_BYTES
returns-then-states-lt-STATE_BYTES c =
    let a = c.args in
    let s = short-states a.file.now a.work.now a.table.now a.states.now c.if-states-lt-STATE_BYTES.true in
    record { table_after = s.0; states_after = s.1 }

pub returns-in_err-size : goal.returns-in_err-size
returns-in_err-size c =
    let p = err_from_is_err_and c.from_residual.result c.from_residual.ensures.1 in
    let a = c.args in
    let k : PlanCalled = record {
      file = a.file.now;
      work = a.work.now;
      table = a.table.now;
      states = a.states.now;
      answer = Err c.in_err-size.field-0.0;
      work-left = c.plan.new.work;
      table-left = c.plan.new.table;
      room = omega (arith, c.if-states-lt-STATE_BYTES.false);
      answered = c.in_err-size.ensures;
    } in
    rw (p.1, p.2) (record { table_after = same_outcome k _ refl; states_after = refusal-leaves k _ refl })

pub slice_bounds-put_states-end : goal.slice_bounds-put_states-end
slice_bounds-put_states-end c = size_in (called (goal.at.slice_bounds-put_states-end c).In_ok-size) _ refl

pub slice_bounds-put_states-end-2 : goal.slice_bounds-put_states-end-2
slice_bounds-put_states-end-2 c = sym (length-take-le _ _ (size_in (called (goal.at.slice_bounds-put_states-end-2 c).In_ok-size) _ refl))

pub slice_bounds-put_states-end-3 : goal.slice_bounds-put_states-end-3
slice_bounds-put_states-end-3 c = work_in (called (goal.at.slice_bounds-put_states-end-3 c).In_ok-size) _ refl

pub slice_bounds-put_states-end-4 : goal.slice_bounds-put_states-end-4
slice_bounds-put_states-end-4 c = sym (lent (goal.at.slice_bounds-put_states-end-4 c).In_ok-size)

pub put_states-requires : goal.put_states-requires
put_states-requires c =
    let k = (goal.at.put_states-requires c).In_ok-size in
    (planned-for (called k) _ refl, omega (arith, lent k), (called k).room)

pub clear-requires : goal.clear-requires
clear-requires c =
    let n = c.put_states.auto.takers ∙ lent (goal.at.clear-requires c).In_ok-size in
    omega (arith, front_long c.put_states.new.takers (drop 22400 c.plan.new.work) 22400 n)

pub returns : goal.returns
returns c =
    let k = (goal.at.returns c).In_ok-size in
    let s = c.put_states in
    let work = work-again (called k) _ refl s.new.takers _ (s.auto.takers ∙ lent k) c.clear.ensures in
    record { table_after = table-outcome (called k) _ refl _ work; states_after = reports (called k) _ refl _ s.ensures }
