-- `small::planned` meets its contract. Assumes nothing.
use mathlib.Core.Path.{◌≡◌, sym, ap, ◌∙◌}
use mathlib.Core.List.{List}
use Prim.Native.Nat.{ℕ, ◌≤◌}
use native.Mathlib.Nat.{mul-le-mul}
use native.Mathlib.Omega.{arith}
use lib.ListN.{length, take}
use Rattle.rules.specs.SmallGates.{gate_file, planned_slots}
use Rattle.laws.specs.SmallFiles.{gate-file-length, needs-at-most}
use Rattle.needsets.specs.Starts.{as_option}
use Rattle.small.specs.PlannedLaws.{file-fits, file-part, table-slots, refused-slots}
use Rattle.small.proofs.planned.Goals as goal
use Rattle.small.proofs.planned.Goals.{After-put_file-size}

-- the file has room
short : (n m : ℕ) → n ≤ 4 → length (gate_file n m) ≤ 112
short n m few = omega (arith, gate-file-length n m, needs-at-most n m, mul-le-mul few few)

-- what the planner gets is the job file of the number
the-file : (c : After-put_file-size) → let a = c.args in
    take c.put_file-size.result c.put_file-size.new.file ≡ gate_file a.jobs a.number
the-file c = file-part _ _ _ _ c.put_file-size.ensures.size c.put_file-size.ensures.bytes

pub put_file-size-requires : goal.put_file-size-requires
put_file-size-requires c =
    let a = c.args in
    (c.requires.0, c.requires.1, short a.jobs a.number c.requires.1)

pub slice_bounds-file-end : goal.slice_bounds-file-end
slice_bounds-file-end c =
    let a = c.args in
    let w = c.put_file-size in
    file-fits (gate_file a.jobs a.number) _ w.new.file w.result w.ensures.size w.ensures.bytes

pub slice_bounds-plan-end : goal.slice_bounds-plan-end
slice_bounds-plan-end c = c.put_file-size.ensures.size ∙ sym (ap length (the-file (goal.at.slice_bounds-plan-end c).After-put_file-size))

pub returns-in-Ok : goal.returns-in-Ok
unfolding as_option
returns-in-Ok c =
    let p = c.plan-answer in
    let the = the-file (goal.at.returns-in-Ok c).After-put_file-size in
    sym (ap as_option (table-slots _ _ _ _ _ _ p.ensures _ c.in-Ok.is)) ∙ ap (λ (bs : List ℕ). as_option (planned_slots bs)) the

pub returns-in-Err : goal.returns-in-Err
unfolding as_option
returns-in-Err c =
    let p = c.plan-answer in
    let the = the-file (goal.at.returns-in-Err c).After-put_file-size in
    let none = refused-slots _ _ _ _ _ _ p.ensures (omega (arith, c.large_buffer-work.ensures)) (omega arith) _ c.in-Err.is in
    sym (ap as_option none) ∙ ap (λ (bs : List ℕ). as_option (planned_slots bs)) the
