-- `seats::stay` meets its contract: a row of givers, then a row of jobs. Assumes nothing.
use mathlib.Core.List.{List}
use mathlib.Core.Path.{◌≡◌, refl, ap, ap₂, ◌∙◌}
use Prim.Native.Nat.{ℕ, ◌+◌, ◌-◌, ◌*◌}
use native.Mathlib.Numerals.{add-one}
use native.Mathlib.Omega.{arith}
use lib.ListN.{set}
use Rattle.rules.specs.Basics.{at}
use Rattle.jobset.specs.Sets.{set_at, minus}
use Rattle.jobset.specs.declared.Set.{Set}
use Rattle.layout.specs.Layout.{prev_at, who_at}
use Rattle.seats.specs.Bytes.{same_set, minus-le}
use Rattle.seats.specs.Carry.{left_at, job_at, givers_stay, stayed}
use Rattle.seats.specs.Words.{with_row, row_other}
use Rattle.seats.proofs.stay.Goals as goal
use Rattle.seats.proofs.stay.Goals.{After-minus-left}

-- the givers that are left
left : (c : After-minus-left) → c.minus-left.result ≡ minus (set_at c.args.tables.now (prev_at + 8 * (c.args.slot - 1) + c.loop-p.p)) c.set_at-ended.result
left c =
    let words = c.args.tables.now in
    let slot = c.args.slot in
    let ended = c.set_at-ended.result in
    let p = c.loop-p.p in
    let h = c.loop-p-test.true in
    let r = c.requires.0 in
    let k = prev_at + 8 * (slot - 1) + p in
    c.minus-left.ensures ∙ ap (λ (G : Set). minus G ended) (c.set_at-givers.ensures
    ∙ same_set (ap (λ (x : List ℕ). at x k) c.loop-p.invariant
    ∙ row_other (prev_at + 8 * slot) (left_at words (slot - 1) ended) words p k (λ q z e. omega arith)))

pub loop-p-init : goal.loop-p-init
unfolding with_row
loop-p-init c = refl

pub overflow_cast-tables : goal.overflow_cast-tables
overflow_cast-tables c =
    let a = c.args in
    let l = c.loop-p in
    let h = c.loop-p-test.true in
    let e = ap (λ (s : Set). s.bits) (left (goal.at.overflow_cast-tables c).After-minus-left) in
    omega (
      arith,
      minus-le (set_at a.tables.now (prev_at + 8 * (a.slot - 1) + l.p)) c.set_at-ended.result,
      c.requires.2 l.p h,
    )

pub loop-p-preserved : goal.loop-p-preserved
unfolding with_row left_at
loop-p-preserved c =
    let a = c.args in
    let l = c.loop-p in
    let e = ap (λ (s : Set). s.bits) (left (goal.at.loop-p-preserved c).After-minus-left) in
    rw (add-one l.p) (ap₂ (λ (x : List ℕ) (v : ℕ). set x (prev_at + 8 * a.slot + l.p) v) l.invariant e)

pub loop-q-init : goal.loop-q-init
unfolding with_row
loop-q-init c = refl

pub loop-q-preserved : goal.loop-q-preserved
unfolding with_row job_at
loop-q-preserved c =
    let a = c.args in
    let l = c.loop-q in
    let h = c.loop-q-test.true in
    let r = c.requires.0 in
    let t = c.loop-p.tables in
    let k = who_at + 8 * (a.slot - 1) + l.q in
    rw (add-one l.q) (ap₂ (λ (x : List ℕ) (v : ℕ). set x (who_at + 8 * a.slot + l.q) v) l.invariant (ap (λ (x : List ℕ). at x k) l.invariant
    ∙ row_other (who_at + 8 * a.slot) (job_at t (a.slot - 1)) t l.q k (λ p z e. omega arith)))

pub returns : goal.returns
unfolding stayed givers_stay
returns c =
    let a = c.args in
    let words = a.tables.now in
    let b = a.slot - 1 in
    let l = c.loop-p in
    let m = c.loop-q in
    let e : l.p ≡ 8 = omega arith in
    let f : m.q ≡ 8 = omega arith in
    (rw f at m.invariant) ∙ ap (λ (x : List ℕ). with_row (who_at + 8 * a.slot) (job_at x b) 8 x)
    ((rw e at l.invariant) ∙ ap (λ (s : Set). with_row (prev_at + 8 * a.slot) (left_at words b s) 8 words) c.set_at-ended.ensures)
