-- `slotboards::take_row` meets its contract. Assumes nothing.
use Rattle.std.proofs.Common.{◌≡◌, refl, sym, ap, ◌∙◌, ⊎_elim, ◌∷◌, ◌+◌, ◌-◌, ◌^◌, ◌<◌, ◌≤◌, length, take, arith, rules}
use Rattle.std.specs.Slice.Iter.{iter_rest}
use Rattle.std.proofs.lemmas.List.{length_push, length-take-le}
use Rattle.std.proofs.Math.Decide.{dec_lt}
use Rattle.rules.specs.Basics.{at}
use Rattle.jobset.specs.Sets.{members, without, is_empty, lowest}
use Rattle.jobset.specs.Tests.{present}
use Rattle.layout.specs.Layout.{tables_in}
use Rattle.placesets.specs.Listing.{row_from}
use Rattle.slotboards.specs.Turns.{row-turn, each_row, row-end}
use Rattle.slotboards.specs.Placing.{Filling, filling, takes, take_lowest, Fits}
use Rattle.slotboards.proofs.Firsts.{first-lowest, none-empty, rest-members, last-pushed}
use Rattle.slotboards.proofs.take_row.Goals as goal
use Rattle.slotboards.proofs.take_row.Goals.{In-Some}

-- the place of this turn is the last of those that are left, and its board the lowest
record Turn (c : In-Some) : Type 0 where
  some : 0 < c.args.count - length c.loop-place.yielded
  left : iter_rest c.next.new.self.a.iter ≡ take (c.args.count - length c.loop-place.yielded - 1) c.args.row.now
  place : c.in-Some.place.now ≡ at c.args.row.now (c.args.count - length c.loop-place.yielded - 1)
  board : c.in-Some.board ≡ lowest c.loop-place.invariant.0
  free : members c.next.new.self.b.rest ≡ members (without c.loop-place.invariant.0 (lowest c.loop-place.invariant.0))
  bits : (without c.loop-place.invariant.0 (lowest c.loop-place.invariant.0)).bits < 2 ^ 64

turn : (c : In-Some) → Turn c
turn c =
    let a = c.args in
    let l = c.loop-place in
    let i = l.invariant in
    let s = c.in-Some.ensures.steps in
    let few : a.count ≤ length a.row.now = omega (arith, c.requires.1) in
    let w = last-pushed a.row.now (iter_rest c.next.new.self.a.iter) (a.count - length l.yielded) c.in-Some.place.now (omega arith)
    (sym i.3 ∙ s.0) in
    let e = sym i.2 ∙ s.1 in
    let r = rest-members i.0 c.in-Some.board (members c.next.new.self.b.rest) i.1 e in
    record { some = w.0; left = w.1; place = w.2; board = (first-lowest i.0 c.in-Some.board _ i.1 e).0; free = r.0; bits = r.1 }

next_fits : (c : In-Some) → let a = c.args in let l = c.loop-place in
    Fits a.tables.now a.slot (c.in-Some.place.now ∷ row_from a.row.now (a.count - length l.yielded - 1)) (filling l.invariant.0 l.boards)
next_fits c =
    let t = turn c in
    rw t.place (row-turn _ _ _ _ _ t.some c.loop-place.invariant.4)

pub loop-place-init : goal.loop-place-init
loop-place-init c =
    let p = c.requires in
    let n : c.args.count - 0 ≡ c.args.count = omega arith in
    rw n (c.args.first, search rules, ap members (cc), (cc), p.2, refl)

pub overflow_cast-boards : goal.overflow_cast-boards
overflow_cast-boards c =
    let i = (goal.at.overflow_cast-boards c).In-Some in
    omega (arith, (turn i).board, (next_fits i).3)

pub job_at-requires : goal.job_at-requires
job_at-requires c = (c.requires.0, rw c.from.ensures (next_fits (goal.at.job_at-requires c).In-Some).0)

pub bounds-boards-job_at : goal.bounds-boards-job_at
bounds-boards-job_at c = rw (c.job_at.ensures, c.from.ensures) (next_fits (goal.at.bounds-boards-job_at c).In-Some).1

pub loop-place-preserved : goal.loop-place-preserved
unfolding take_lowest takes
loop-place-preserved c =
    let l = c.loop-place in
    let a = c.args in
    let i = (goal.at.loop-place-preserved c).In-Some in
    let t = turn i in
    let F = l.invariant.0 in
    let n : a.count - (length l.yielded + 1) ≡ a.count - length l.yielded - 1 = omega arith in
    let r = each_row (take_lowest (tables_in a.tables.now) a.slot) _ _ (filling F l.boards) t.some ∙ l.invariant.5 in
    rw (length_push, n) (
      without F (lowest F),
      t.bits,
      t.free,
      t.left,
      rw (c.job_at.ensures, c.from.ensures, t.board) (next_fits i).4,
      rw (c.job_at.ensures, c.from.ensures, t.board, t.place) r,
    )

pub returns : goal.returns
returns c =
    let a = c.args in
    let l = c.loop-place in
    let i = l.invariant in
    let n = a.count - length l.yielded in
    let few : n ≤ length a.row.now = omega (arith, c.requires.1) in
    let done = λ (e : n ≡ 0). ap (λ (w : Filling). w.boards) (sym (row-end _ _ _) ∙ rw e at i.5) in
    ⊎_elim
    (λ w. done (sym (length-take-le n a.row.now few) ∙ ap length (sym i.3) ∙ w.1.0))
    (λ w. elim (dec_lt 0 n) [
      | yes p ↦ absurd (present (is_empty i.0) (none-empty i.0 i.1 (sym i.2 ∙ w.1.0)) (row-turn _ _ _ _ _ p i.4).2)
      | no q ↦ done (omega arith)
    ])
    c.in-None.ensures.steps
