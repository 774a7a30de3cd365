-- `needsets::numbers::is_gate` meets its contract. The marks are those of so many rounds. Assumes nothing.
use mathlib.Core.Path.{◌≡◌, refl, sym, ap, ap₂, ◌∙◌}
use Prim.Native.Nat.{ℕ, ◌-◌}
use native.Mathlib.Numerals.{add-one}
use native.Mathlib.Omega.{arith}
use lib.Dec.{eqb}
use Rattle.needsets.specs.Sizes.{shifted}
use Rattle.needsets.specs.Marks.{marked_bits, marks}
use Rattle.needsets.specs.MarkLaws.{gate-is}
use Rattle.needsets.proofs.numbers.is_gate.Goals as goal

pub loop-init : goal.loop-init
unfolding marks
loop-init c = refl

pub loop-preserved : goal.loop-preserved
unfolding marks
loop-preserved c =
    let a = c.args in
    let l = c.loop in
    c.mark-marked.ensures ∙ ap (marked_bits a.jobs a.number) l.invariant ∙ ap (marks a.jobs a.number) (sym (add-one l.counter))

pub returns : goal.returns
returns c =
    let a = c.args in
    let l = c.loop in
    let last : l.counter ≡ a.jobs = omega arith in
    ap₂ (λ (v w : ℕ). eqb v (w - 1)) (l.invariant ∙ ap (marks a.jobs a.number) last) (shifted a.jobs (omega arith)) ∙ gate-is a.jobs a.number
