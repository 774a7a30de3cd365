-- `seats::carry` meets its contract. Assumes nothing.
use mathlib.Core.Path.{◌≡◌, ap, ap₂, ◌∙◌}
use Prim.Native.Nat.{ℕ, ◌+◌, ◌-◌, ◌*◌, ◌/◌, ◌<◌}
use native.Mathlib.Omega.{arith}
use lib.ListN.{set}
use lib.Seq.{get_or-set_other}
use Rattle.jobset.specs.Sets.{set_at, minus}
use Rattle.jobset.specs.declared.Set.{Set}
use Rattle.layout.specs.Layout.{held_at, marks_at, prev_at}
use Rattle.threes.specs.Threes.{threes}
use Rattle.seats.specs.Bytes.{minus-le}
use Rattle.seats.specs.Carry.{carried_held, next_mark, stayed, carried}
use Rattle.seats.specs.Rows.{threes-few}
use Rattle.seats.proofs.carry.Goals as goal
use Rattle.seats.proofs.carry.Goals.{After-from-2, After-minus-held, at-After-from-2}

-- the places of the slot before are below 8
byte-before : (c : After-minus-held) → c.set_at-before.result.bits < 256
byte-before c =
    let a = c.args in
    let p = c.requires in
    let e = ap (λ (s : Set). s.bits) c.set_at-before.ensures in
    omega (arith, p.3.1.sets (held_at + (a.slot - 1)) (omega arith))

-- what the code computes: the places of the slot ..
held-is : (c : After-minus-held) → c.minus-held.result ≡ carried_held c.args.tables.now (c.args.slot - 1) c.args.slot
unfolding carried_held
held-is c = c.minus-held.ensures ∙ ap₂ minus c.set_at-before.ensures c.set_at.ensures

-- .. which are below 8 ..
byte : (c : After-minus-held) → c.minus-held.result.bits < 256
byte c =
    let e = ap (λ (s : Set). s.bits) c.minus-held.ensures in
    omega (arith, byte-before c, minus-le c.set_at-before.result c.set_at.result)

-- .. and where the next row of marks begins
mark-is : (c : After-from-2) → let a = c.args in
    c.from-2.result + (c.from.result / 4 + 1) ≡ next_mark a.tables.now (a.slot - 1) a.slot
unfolding next_mark
mark-is c =
    let e = c.set_at-before in
    ap₂ (λ (x y : ℕ). x + (y / 4 + 1)) c.from-2.ensures
    (c.from.ensures ∙ c.requires.3.1.threes e.result.bits (byte-before (at-After-from-2 c).After-minus-held) ∙ ap (λ (s : Set). threes s) e.ensures)

pub overflow_add-before : goal.overflow_add-before
overflow_add-before c = let b = byte-before (goal.at.overflow_add-before c).After-minus-held in omega arith

pub offset_bounds-tables-before : goal.offset_bounds-tables-before
offset_bounds-tables-before c = let b = byte-before (goal.at.offset_bounds-tables-before c).After-minus-held in omega arith

pub bounds-tables-before : goal.bounds-tables-before
bounds-tables-before c = let b = byte-before (goal.at.bounds-tables-before c).After-minus-held in omega arith

pub overflow_cast-tables : goal.overflow_cast-tables
overflow_cast-tables c = let b = byte (goal.at.overflow_cast-tables c).After-minus-held in omega arith

pub overflow_cast-tables-2 : goal.overflow_cast-tables-2
unfolding next_mark
overflow_cast-tables-2 c =
    let few = threes-few (set_at c.args.tables.now (held_at + (c.args.slot - 1))) in
    omega (arith, mark-is (goal.at.overflow_cast-tables-2 c).After-from-2, c.requires, few)

pub stay-requires : goal.stay-requires
stay-requires c =
    let a = c.args in
    let p = c.requires in
    let one = set a.tables.now (held_at + a.slot) c.minus-held.result.bits in
    let mark = c.from-2.result + (c.from.result / 4 + 1) in (
      omega arith,
      omega arith,
      λ q h.
          let k = prev_at + 8 * (a.slot - 1) + q in
          rw (
            get_or-set_other one (marks_at + a.slot + 1) k mark 0 (λ e. omega arith),
            get_or-set_other a.tables.now (held_at + a.slot) k c.minus-held.result.bits 0 (λ e. omega arith),
          )
          (p.3.1.prevs k (omega arith) (omega arith)),
    )

pub returns : goal.returns
unfolding carried
returns c =
    let a = c.args in
    let b = a.slot - 1 in
    c.stay.ensures
    ∙ ap₂ (λ (s : Set) (m : ℕ). stayed (set (set a.tables.now (held_at + a.slot) s.bits) (marks_at + a.slot + 1) m) b a.slot)
    (held-is (goal.at.returns c).After-minus-held) (mark-is (goal.at.returns c).After-from-2)
