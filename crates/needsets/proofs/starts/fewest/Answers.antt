-- `needsets::starts::fewest` meets its contract. `least` has the fewest slots of the lists below the loop's. Assumes nothing.
use mathlib.Core.Path.{◌≡◌, refl, sym, ap, ap₂, ◌∙◌}
use mathlib.Core.List.{List}
use Prim.Native.Nat.{ℕ}
use Rattle.std.proofs.Common.{Option}
use native.Mathlib.Numerals.{add-one}
use native.Mathlib.Omega.{arith}
use lib.ListN.{length}
use Rattle.needsets.specs.Starts.{least_with, fewest_by}
use Rattle.needsets.specs.StartLaws.{four-digits}
use Rattle.needsets.specs.FewestLaws.{fewest-is}
use Rattle.needsets.proofs.starts.fewest.Goals as goal
use Rattle.needsets.proofs.starts.fewest.Goals.{After-put_starts}

-- the starts that are written are four
four : (c : After-put_starts) → length c.put_starts.new.starts ≡ 4
four c = ap length c.put_starts.ensures ∙ four-digits _ _

pub loop-index-init : goal.loop-index-init
unfolding fewest_by
loop-index-init c = (refl, refl)

pub loop-index-preserved : goal.loop-index-preserved
unfolding fewest_by
loop-index-preserved c =
    let a = c.args in
    let l = c.loop-index in (
      four (goal.at.loop-index-preserved c).After-put_starts,
      c.least_with-least.ensures ∙ ap₂ (λ (t : List ℕ) (x : Option ℕ). least_with a.jobs a.number t x) c.put_starts.ensures l.invariant.1
          ∙ ap (fewest_by a.jobs a.number) (sym (add-one l.index)),
    )

pub returns : goal.returns
returns c =
    let a = c.args in
    let l = c.loop-index in
    let last : l.index ≡ c.list_count-many.result = omega arith in
    let p = c.requires in
    l.invariant.1 ∙ ap (fewest_by a.jobs a.number) (last ∙ c.list_count-many.ensures) ∙ fewest-is a.jobs a.number p.0 p.1
