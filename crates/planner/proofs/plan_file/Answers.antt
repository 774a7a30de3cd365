-- `planner::plan_file` meets its contract. Assumes nothing.
use mathlib.Core.Path.{refl}
use Prim.Native.Nat.{ℕ}
use native.Mathlib.Omega.{arith}
use lib.ListN.{length-replicate}
use Rattle.std.proofs.lemmas.Result.{err_from_is_err_and}
use Rattle.releases.specs.Ordered.{Peeled}
use Rattle.planner.specs.Planner.{JobsRead}
use Rattle.planner.specs.Asked.{read-refused, jobs-read, boards-read, of-needs, refused-11, order-of, windows-read}
use Rattle.planner.proofs.plan_file.Goals as goal
use Rattle.planner.proofs.plan_file.Goals.{After-peel, In_ok-f, at-After-peel}

-- from the order to the reader's yes
abbrev to-file : After-peel → In_ok-f
to-file c = (at-After-peel c).In_ok-f

-- the file is readable
read : (c : In_ok-f) → let r = c.read_file in JobsRead c.args.file.now c.in_ok-f.f.jobs c.in_ok-f.f.limit r.new.offsets r.new.rows
read c = jobs-read c.in_ok-f.ensures.0 (λ i. omega (arith, c.type_inv.file i))

-- its jobs are peeled
peeled : (c : After-peel) → let j = read (to-file c) in
    Peeled c.in_ok-f.f.jobs j.file.needs c.peel.result c.peel.new.order c.peel.new.release
peeled c = let j = read (to-file c) in c.peel.ensures j.file.needs j.held.needs-in j.held.rows_are

pub read_file-requires : goal.read_file-requires
read_file-requires c = (length-replicate {A = ℕ} 400 0, omega (arith, c.requires.0))

pub returns-in_err-f : goal.returns-in_err-f
returns-in_err-f c =
    let p = err_from_is_err_and c.from_residual.result c.from_residual.ensures.1 in
    rw (p.1, p.2) (read-refused c.in_err-f.ensures.0 c.args.table.now)

pub peel-requires : goal.peel-requires
peel-requires c = (of-needs (read (goal.at.peel-requires c).In_ok-f), length-replicate {A = ℕ} 400 0, refl)

pub returns-then-not-peel : goal.returns-then-not-peel
returns-then-not-peel c =
    refused-11 (read (goal.at.returns-then-not-peel c).In_ok-f) _ (peeled (goal.at.returns-then-not-peel c).After-peel).answer _ (c.if-not-peel.true)

pub tails-requires : goal.tails-requires
tails-requires c = (
  order-of (read (goal.at.tails-requires c).In_ok-f) _ _ _ (peeled (goal.at.tails-requires c).After-peel) c.if-not-peel.false,
  length-replicate {A = ℕ} 400 0,
)

pub plan_windows-requires : goal.plan_windows-requires
plan_windows-requires c =
    let j = read (goal.at.plan_windows-requires c).In_ok-f in
    let p = c.requires in (
      omega (arith, p.0, c.in_ok-f.ensures.1),
      p.1,
      windows-read j _ _ _ (peeled (goal.at.plan_windows-requires c).After-peel)
          c.if-not-peel.false _ _
          (boards-read c.in_ok-f.ensures.0 j _ c.most_boards.ensures) c.tails.ensures,
    )
