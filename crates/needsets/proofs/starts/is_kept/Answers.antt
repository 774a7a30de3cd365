-- `needsets::starts::is_kept` meets its contract. Assumes nothing.
use mathlib.Core.Path.{◌≡◌, sym, ◌∙◌}
use mathlib.Core.Bool.{true}
use Prim.Native.Nat.{◌/◌, ◌%◌, ◌<◌}
use native.Mathlib.Omega.{arith}
use Rattle.rules.specs.Basics.{at}
use Rattle.rules.specs.SmallGates.{bit}
use Rattle.laws.specs.SmallGates.{of-bit}
use Rattle.needsets.specs.Sizes.{places-few}
use Rattle.needsets.specs.Starts.{starts_next}
use Rattle.needsets.specs.StartLaws.{keeps-no-need, keeps-not-later, keeps-later, keeps-free}
use Rattle.needsets.proofs.starts.is_kept.Goals as goal
use Rattle.needsets.proofs.starts.is_kept.Goals.{After-is_next, Else-not-is_set, Else-taker-giver}

-- there is a need at the place
need : (c : Else-not-is_set) → let a = c.args in bit a.number a.place ≡ true
need c = sym c.is_set.ensures ∙ c.if-not-is_set.false

-- whether its taker starts right after its giver
next : (c : After-is_next) → let a = c.args in
    c.is_next.result ≡ starts_next a.starts.now (a.place / a.jobs) (a.place % a.jobs)
unfolding starts_next
next c = c.is_next.ensures

later : (c : Else-taker-giver) → let a = c.args in
    at a.starts.now (a.place / a.jobs) < at a.starts.now (a.place % a.jobs)
later c = omega arith

pub is_set-requires : goal.is_set-requires
is_set-requires c = omega (arith, places-few c.requires.1)

pub returns-then-not-is_set : goal.returns-then-not-is_set
returns-then-not-is_set c = keeps-no-need _ _ _ _ (sym c.is_set.ensures ∙ c.if-not-is_set.true)

pub bounds-starts-place : goal.bounds-starts-place
bounds-starts-place c = let p = c.requires in omega (arith, (of-bit _ c.args.place p.2).0)

pub bounds-starts-place-2 : goal.bounds-starts-place-2
bounds-starts-place-2 c = let p = c.requires in omega (arith, (of-bit _ c.args.place p.2).1)

pub returns-then-taker-giver : goal.returns-then-taker-giver
returns-then-taker-giver c =
    let a = c.args in
    keeps-not-later a.jobs a.number a.starts.now a.place (need (goal.at.returns-then-taker-giver c).Else-not-is_set) (omega arith)

pub returns-then-not-is_next : goal.returns-then-not-is_next
returns-then-not-is_next c =
    keeps-later _ _ _ _ (need (goal.at.returns-then-not-is_next c).Else-not-is_set) (later (goal.at.returns-then-not-is_next c).Else-taker-giver)
    (sym (next (goal.at.returns-then-not-is_next c).After-is_next) ∙ c.if-not-is_next.true)

pub returns : goal.returns
returns c =
    c.is_conflict_free.ensures
    ∙ keeps-free _ _ _ _ (need (goal.at.returns c).Else-not-is_set) (later (goal.at.returns c).Else-taker-giver)
    (sym (next (goal.at.returns c).After-is_next) ∙ c.if-not-is_next.false)
