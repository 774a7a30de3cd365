-- `needsets::starts::is_conflict` meets its contract. Assumes nothing.
use mathlib.Core.Path.{◌≡◌, sym, ap, ◌∙◌}
use mathlib.Core.Bool.{Bool, true, ◌||◌}
use Prim.Native.Nat.{◌/◌, ◌%◌}
use native.Mathlib.Omega.{arith}
use borrow.Author.Tests.{eq-eqb, ne_eqb}
use lib.Dec.{eqb}
use Rattle.laws.specs.SmallGates.{of-bit}
use Rattle.needsets.specs.Sizes.{places-few}
use Rattle.needsets.specs.Starts.{starts_next, conflicts}
use Rattle.needsets.specs.StartLaws.{conflict-not-itself, conflict-no-need, conflict-not-next, conflict-by-job}
use Rattle.rules.specs.SmallGates.{bit}
use Rattle.needsets.proofs.starts.is_conflict.Goals as goal
use Rattle.needsets.proofs.starts.is_conflict.Goals.{After-is_next, Else-not-is_next, Else-not-is_set, at-Else-not-is_next}

-- the other place has a need
need : (c : Else-not-is_set) → let a = c.args in bit a.number a.other ≡ true
need c = sym c.is_set.ensures ∙ c.if-not-is_set.false

-- whether its taker starts right after its giver
next : (c : After-is_next) → let a = c.args in
    c.is_next.result ≡ starts_next a.starts.now (a.other / a.jobs) (a.other % a.jobs)
unfolding starts_next
next c = c.is_next.ensures

-- where it does, giver and taker decide
by-job : (c : Else-not-is_next) → let a = c.args in
    (eqb (a.other / a.jobs) (a.place / a.jobs) || eqb (a.other % a.jobs) (a.place % a.jobs))
    ≡ conflicts a.jobs a.number a.starts.now a.place a.other
by-job c =
    conflict-by-job _ _ _ _ _ c.if-other-place.false (need (at-Else-not-is_next c).Else-not-is_set)
    (sym (next (at-Else-not-is_next c).After-is_next) ∙ c.if-not-is_next.false)

pub returns-then-other-place : goal.returns-then-other-place
returns-then-other-place c = conflict-not-itself _ _ _ _ _ c.if-other-place.true

pub is_set-requires : goal.is_set-requires
is_set-requires c = omega (arith, places-few c.requires.1)

pub returns-then-not-is_set : goal.returns-then-not-is_set
returns-then-not-is_set c = conflict-no-need _ _ _ _ _ c.if-other-place.false (sym c.is_set.ensures ∙ c.if-not-is_set.true)

pub bounds-starts-giver : goal.bounds-starts-giver
bounds-starts-giver c = let p = c.requires in omega (arith, (of-bit _ c.args.other p.3).0)

pub bounds-starts-taker : goal.bounds-starts-taker
bounds-starts-taker c =
    let p = c.requires in
    omega (arith, (of-bit _ c.args.other p.3).1)

pub returns-then-not-is_next : goal.returns-then-not-is_next
returns-then-not-is_next c =
    conflict-not-next _ _ _ _ _ c.if-other-place.false (need (goal.at.returns-then-not-is_next c).Else-not-is_set)
    (sym (next (goal.at.returns-then-not-is_next c).After-is_next) ∙ c.if-not-is_next.true)

pub returns-then-giver-place : goal.returns-then-giver-place
returns-then-giver-place c =
    let a = c.args in
    sym (ap (λ (b : Bool). b || eqb (a.other % a.jobs) (a.place % a.jobs)) (eq-eqb _ _ c.if-giver-place.true))
    ∙ by-job (goal.at.returns-then-giver-place c).Else-not-is_next

pub returns : goal.returns
returns c =
    let a = c.args in
    sym (ap (λ (b : Bool). b || eqb (a.other % a.jobs) (a.place % a.jobs)) (ne_eqb _ _ c.if-giver-place.false))
    ∙ by-job (goal.at.returns c).Else-not-is_next
