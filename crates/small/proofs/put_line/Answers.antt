-- `small::put_line` meets its contract. Assumes nothing.
use mathlib.Core.Path.{◌≡◌, ap, ap₂, ◌∙◌}
use Rattle.std.proofs.Common.{Option, unwrap_or}
use Prim.Native.Nat.{ℕ, ◌+◌}
use native.Mathlib.Omega.{arith}
use lib.ListN.{set, length-set}
use Rattle.laws.specs.Writing.{put}
use Rattle.small.specs.Lines.{agreed_slots, line_slots}
use Rattle.small.proofs.Missing.{or-zero-is}
use Rattle.small.proofs.put_line.Goals as goal

pub bounds-list-at-2 : goal.bounds-list-at-2
bounds-list-at-2 c = let a = c.args in omega (arith, length-set a.list.now a.at a.jobs)

pub bounds-list-at-3 : goal.bounds-list-at-3
bounds-list-at-3 c =
    let a = c.args in
    omega (arith, length-set a.list.now a.at a.jobs, length-set (set a.list.now a.at a.jobs) (a.at + 1) a.number)

pub returns : goal.returns
unfolding put line_slots
returns c =
    let a = c.args in
    let third : a.at + 2 ≡ a.at + 1 + 1 = omega arith in
    let slots =
    c.from.ensures ∙ c.agreed-slots.ensures
    ∙ ap₂ (λ (p l : ℕ). agreed_slots p l) (ap (λ (o : Option ℕ). unwrap_or o 0) c.planned.ensures ∙ or-zero-is _)
    (ap (λ (o : Option ℕ). unwrap_or o 0) c.fewest.ensures ∙ or-zero-is _) in
    ap₂ (λ (i x : ℕ). set (set (set a.list.now a.at a.jobs) (a.at + 1) a.number) i x) third slots
