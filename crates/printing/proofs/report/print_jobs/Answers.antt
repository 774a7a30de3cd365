-- `printing::report::print_jobs` meets its contract. Assumes nothing.
use native.Mathlib.Omega.{arith}
use Prim.Native.Nat.{ℕ, ◌+◌, ◌≤◌}
use mathlib.Core.Path.{◌≡◌, sym, ap, ◌∙◌}
use mathlib.Core.Bool.{Bool, true}
use mathlib.Core.List.{List}
use lib.ListN.{length}
use Rattle.rules.specs.Fields.{value, whole}
use Rattle.laws.specs.Tests.{T_true}
use Rattle.laws.specs.Fields.{whole_is, length-value, after-head}
use Rattle.printing.proofs.report.print_jobs.Goals as goal

-- a whole field ends in the table
ends : (bs v : List ℕ) (a : ℕ) (b : Bool) → b ≡ whole bs a → b ≡ true → v ≡ value bs a → a + 3 + length v ≤ length bs
ends bs v a b e y w =
    let t = (T_true (whole bs a)).1 (sym e ∙ y) in
    omega (arith, ap length w, length-value bs a t, (whole_is bs a).0 t, after-head bs a)

pub value_at-row-requires : goal.value_at-row-requires
value_at-row-requires c = (T_true _).1 (sym c.is_whole.ensures ∙ c.if-not-is_whole.false)

pub overflow_add-number : goal.overflow_add-number
overflow_add-number c = omega (arith, c.loop-at.invariant)

pub overflow_add-at : goal.overflow_add-at
overflow_add-at c =
    let e = ends _ _ _ _ c.is_whole.ensures c.if-not-is_whole.false c.value_at-row.ensures in
    omega (arith, c.loop-at.invariant)

pub overflow_add-at-in-loop-at : goal.overflow_add-at-in-loop-at
overflow_add-at-in-loop-at c =
    let e = ends _ _ _ _ c.is_whole.ensures c.if-not-is_whole.false c.value_at-row.ensures in
    omega (arith, c.loop-at.invariant)

pub loop-at-smaller : goal.loop-at-smaller
loop-at-smaller c =
    let e = ends _ _ _ _ c.is_whole.ensures c.if-not-is_whole.false c.value_at-row.ensures in
    omega (arith, c.loop-at.invariant)

pub loop-at-preserved : goal.loop-at-preserved
loop-at-preserved c =
    let e = ends _ _ _ _ c.is_whole.ensures c.if-not-is_whole.false c.value_at-row.ensures in
    omega (arith, c.loop-at.invariant)
