-- `small::put_lines` meets its contract. The lines of the numbers from the loop's up are still to come. Assumes nothing.
use mathlib.Core.Path.{◌≡◌, sym, ap, ◌∙◌}
use mathlib.Core.Bool.{true}
use mathlib.Core.List.{List, [], ◌∷◌}
use Prim.Native.Nat.{ℕ, ◌+◌, ◌*◌, ◌≤◌}
use native.Mathlib.Omega.{arith}
use borrow.Author.Rules.{rules}
use lib.ListN.{length}
use Rattle.rules.specs.Basics.{range, joined}
use Rattle.rules.specs.SmallGates.{gate_lines, line_numbers}
use Rattle.laws.specs.Writing.{put, so-far-room, so-far-put, so_far_skip, so-far-size, so-far-end}
use Rattle.needsets.specs.Sizes.{places-few, power-few}
use Rattle.small.specs.Lines.{line_slots, line_of}
use Rattle.small.specs.LineLaws.{line-there, line-none, lines_are}
use Rattle.small.proofs.put_lines.Goals as goal
use Rattle.small.proofs.put_lines.Goals.{After-set_count-many, After-is_gate, at-After-is_gate, then-is_gate, else-is_gate}

-- the lines of all numbers are those of the rules
all_lines : (c : After-set_count-many)
    → joined (line_of c.args.jobs) (range c.set_count-many.result 0) ≡ joined line_numbers (gate_lines c.args.jobs)
all_lines c =
    let n = c.args.jobs in
    ap (λ (k : ℕ). joined (line_of n) (range k 0)) c.set_count-many.ensures ∙ lines_are n c.requires.0 c.requires.1

-- each number has two bytes
few : (c : After-set_count-many) → c.set_count-many.result ≤ 65536
few c = let n = c.args.jobs in omega (arith, c.set_count-many.ensures, power-few (n * n) (places-few c.requires.1))

-- a number with a line, and the room for it
line : (c : After-is_gate) → c.is_gate.result ≡ true → let n = c.args.jobs in
    let m = c.loop-number.number in line_of n m ≡ n ∷ m ∷ line_slots n m ∷ []
line c holds = line-there _ _ (sym c.is_gate.ensures ∙ holds)

room : (c : After-is_gate) → c.is_gate.result ≡ true → c.loop-number.at + 3 ≤ length c.loop-number.list
room c holds =
    let all = ap length (all_lines (at-After-is_gate c).After-set_count-many) in
    let fit = c.requires.2 in
    omega (arith, so-far-room c.loop-number.invariant c.loop-number-test.true (omega (arith, all, fit)), ap length (line c holds))

pub put_line-requires : goal.put_line-requires
put_line-requires c =
    let p = c.requires in
    let asked = goal.at.put_line-requires c in
    (p.0, p.1, omega (arith, few asked.After-set_count-many), room asked.After-is_gate c.if-is_gate.true)

pub overflow_add-at : goal.overflow_add-at
overflow_add-at c = let h = room (goal.at.overflow_add-at c).After-is_gate c.if-is_gate.true in search rules

pub loop-number-preserved : goal.loop-number-preserved
loop-number-preserved c =
    let asked = (goal.at.loop-number-preserved c).After-is_gate in
    let l = c.loop-number in
    elim c.if-is_gate.branch [
      | then-is_gate w ↦
          let there = line asked w.if-is_gate.true in
          so-far-put l.invariant c.loop-number-test.true _ _ (w.at-is ∙ omega (arith, ap length there))
          (w.list-is ∙ w.put_line.ensures ∙ ap (λ (xs : List ℕ). put l.at xs l.list) (sym there))
      | else-is_gate w ↦
          rw (w.at-is, w.list-is) (so_far_skip l.invariant c.loop-number-test.true (line-none _ _ (sym c.is_gate.ensures ∙ w.if-is_gate.false)))
    ]

pub returns : goal.returns
returns c =
    let a = c.args in
    let s = c.loop-number.invariant in
    let all = all_lines (goal.at.returns c).After-set_count-many in record {
      size = so-far-size s c.loop-number-test.false ∙ ap (λ (xs : List ℕ). a.first + length xs) all;
      entries = so-far-end s c.loop-number-test.false ∙ ap (λ (xs : List ℕ). put a.first xs a.list.now) all;
    }
