-- `lengths::search` meets its contract. Assumes nothing.
use mathlib.Core.Path.{◌≡◌, refl, ap, ◌∙◌}
use mathlib.Core.List.{List}
use Prim.Native.Nat.{ℕ, suc, ◌+◌, ◌≤◌}
use native.Mathlib.Numerals.{add-one}
use native.Mathlib.Omega.{arith}
use lib.ListN.{length}
use Rattle.rules.specs.Sizes.{max_limit}
use Rattle.rules.specs.Basics.{at}
use Rattle.places.specs.Windows.{Windows}
use Rattle.layout.specs.Layout.{marks_at, marks_room}
use Rattle.seats.specs.Filled.{Fitted}
use Rattle.jobset.specs.Sets.{empty}
use Rattle.bitmap.specs.Marks.{cleared}
use Rattle.backtrack.specs.Search.{written, explored_in}
use Rattle.lengths.specs.Searching.{Search}
use Rattle.lengths.specs.Steps.{Going, goes, ends, fitting, searchable, bitmap-bytes, reached, none-due, not_found, is_found, length-written}
use Rattle.lengths.proofs.search.Goals as goal
use Rattle.lengths.proofs.search.Goals.{After-clear, After-fit, Else-explore, at-Else-explore}

-- ---- the tables of one length

-- what is asked of windows and a cap
abbrev Asked : After-fit → Windows → ℕ → Type 0
Asked c W cap =
    let a = c.args in
    Search W cap a.filled a.least a.limit a.jobs a.tables.now a.places.now a.tail.now (length a.dead.now) a.path.now

-- the tables fit the length
fitted : (c : After-fit) (W : Windows) (cap : ℕ) → Asked c W cap
    → Fitted W c.loop-slots.slots c.loop-slots.tables c.fit.new.tables
fitted c W cap Q =
    let l = c.loop-slots in
    c.fit.ensures W (fitting W cap _ _ _ _ _ _ _ _ _ Q l.has l.slots l.tables l.path (l.invariant.1 W cap Q) c.loop-slots-test.true)

-- the bitmap has room for their marks
roomy : (c : After-fit) → marks_room ≤ length c.loop-slots.dead
roomy c = let q = c.requires in omega (arith, c.loop-slots.invariant.0, q.2.bitmap-fits)

-- the length is one of those that the tables have room for
few : (c : After-fit) → c.loop-slots.slots ≤ max_limit
few c = let q = c.requires.2.few in let t = c.loop-slots-test.true in omega arith

-- and is cleared for them
dead-is : (c : After-clear) → c.clear.new.bytes ≡ cleared (at c.fit.new.tables (marks_at + c.loop-slots.slots)) c.loop-slots.dead
dead-is c = c.clear.ensures ∙ ap (λ (k : ℕ). cleared k c.loop-slots.dead) c.from.ensures

pub loop-slots-init : goal.loop-slots-init
loop-slots-init c = (refl, λ W cap Q. goes W cap _ _ _ _ _ _ _ _ _ Q)

pub fit-requires : goal.fit-requires
fit-requires c =
    let q = c.requires in
    let l = c.loop-slots in (
      q.0,
      fitting q.0 q.1 _ _ _ _ _ _ _ _ _ q.2 l.has l.slots l.tables l.path (l.invariant.1 q.0 q.1 q.2)
          c.loop-slots-test.true,
    )

pub overflow_add-slots : goal.overflow_add-slots
overflow_add-slots c = omega (arith, few (goal.at.overflow_add-slots c).After-fit)

pub offset_bounds-tables-slots : goal.offset_bounds-tables-slots
offset_bounds-tables-slots c = omega (arith, few (goal.at.offset_bounds-tables-slots c).After-fit)

pub bounds-tables-slots : goal.bounds-tables-slots
bounds-tables-slots c = omega (arith, few (goal.at.bounds-tables-slots c).After-fit)

pub clear-requires : goal.clear-requires
clear-requires c =
    let l = c.loop-slots in
    let q = c.requires in
    omega (
      arith,
      c.from.ensures,
      roomy (goal.at.clear-requires c).After-fit,
      bitmap-bytes q.0 q.1 _ _ _ _ _ _ _ _ _ q.2 l.has l.slots l.tables l.path (l.invariant.1 q.0 q.1 q.2)
          c.loop-slots-test.true c.fit.new.tables (fitted (goal.at.clear-requires c).After-fit q.0 q.1 q.2),
    )

pub explore-requires : goal.explore-requires
explore-requires c =
    let l = c.loop-slots in
    let q = c.requires in
    let F = fitted (goal.at.explore-requires c).After-fit q.0 q.1 q.2 in (
      searchable q.0 q.1 _ _ _ _ _ _ _ _ _ q.2 l.has l.slots l.tables l.path (l.invariant.1 q.0 q.1 q.2)
          c.loop-slots-test.true c.fit.new.tables F _
          (omega (arith, roomy (goal.at.explore-requires c).After-fit, c.clear.auto.bytes)),
      reached q.0 q.1 _ _ _ _ _ _ _ _ _ q.2 l.has l.slots l.tables l.path (l.invariant.1 q.0 q.1 q.2)
          c.loop-slots-test.true c.fit.new.tables F,
      none-due q.0 q.1 _ _ _ _ _ _ _ _ _ q.2 l.has l.slots l.tables l.path (l.invariant.1 q.0 q.1 q.2)
          c.loop-slots-test.true c.fit.new.tables F,
    )

pub returns-then-explore : goal.returns-then-explore
returns-then-explore c =
    let l = c.loop-slots in
    λ W cap Q. is_found W cap _ _ _ _ _ _ _ _ _ Q l.has l.slots l.tables l.path (l.invariant.1 W cap Q)
    c.loop-slots-test.true
    c.fit.new.tables (fitted (goal.at.returns-then-explore c).After-fit W cap Q) l.dead (roomy (goal.at.returns-then-explore c).After-fit) c.explore.result
    (c.explore.ensures.found
    ∙ ap (λ (d : List ℕ). (explored_in c.fit.new.tables 0 empty empty d).plan.ok)
    (dead-is (goal.at.returns-then-explore c).After-clear)) c.if-explore.true _
    (c.explore.ensures.path
    ∙ ap (λ (d : List ℕ). written 0 (explored_in c.fit.new.tables 0 empty empty d).plan.sets l.path)
    (dead-is (goal.at.returns-then-explore c).After-clear))

-- no plan of this length: what holds before the next
goes-on : (c : Else-explore) (W : Windows) (cap : ℕ) → Asked (at-Else-explore c).After-fit W cap
    → let l = c.loop-slots in Going W cap c.args.least l.slots (suc l.slots) c.fit.new.tables c.explore.new.path
goes-on c W cap Q =
    let l = c.loop-slots in
    let F = (at-Else-explore c).After-fit in
    not_found W cap _ _ _ _ _ _ _ _ _ Q l.has l.slots l.tables l.path (l.invariant.1 W cap Q)
    c.loop-slots-test.true
    c.fit.new.tables (fitted F W cap Q) l.dead (roomy F) c.explore.result
    (c.explore.ensures.found
    ∙ ap (λ (d : List ℕ). (explored_in c.fit.new.tables 0 empty empty d).plan.ok)
    (dead-is (at-Else-explore c).After-clear)) c.if-explore.false _
    (ap length c.explore.ensures.path ∙ length-written _ 0 l.path ∙ (l.invariant.1 W cap Q).path-len)

pub loop-slots-preserved : goal.loop-slots-preserved
loop-slots-preserved c =
    let l = c.loop-slots in (
      c.explore.auto.dead ∙ c.clear.auto.bytes ∙ l.invariant.0,
      λ W cap Q. rw add-one (goes-on (goal.at.loop-slots-preserved c).Else-explore W cap Q),
    )

-- after the last length
pub returns-else-explore : goal.returns-else-explore
returns-else-explore c =
    let l = c.loop-slots in
    λ W cap Q. ends W cap _ _ _ _ _ _ _ _ _ Q l.slots (suc l.slots) c.fit.new.tables c.explore.new.path
    (goes-on (goal.at.returns-else-explore c).Else-explore W cap Q) (omega arith)

-- there is no length
pub returns : goal.returns
returns c =
    let l = c.loop-slots in
    λ W cap Q. ends W cap _ _ _ _ _ _ _ _ _ Q l.has l.slots l.tables l.path (l.invariant.1 W cap Q) c.loop-slots-test.false
