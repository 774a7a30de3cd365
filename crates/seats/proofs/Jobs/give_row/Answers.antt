-- `seats::Jobs::give_row` meets its contract. The takers that are still to come, with the sets as they are now, lead to what all of them
-- lead to. Assumes nothing.
use Rattle.std.proofs.Common.{refl, sym, ap, ◌∙◌, ℕ, ◌<◌, List, arith}
use mathlib.Core.List.{Memᴰ}
use Rattle.needrows.specs.Rows.{left_at}
use Rattle.seats.specs.Give.{gave, give_each}
use Rattle.seats.proofs.Jobs.give_row.Goals as goal
use Rattle.seats.proofs.Jobs.give_row.Goals.{In-Some}

-- the taker is a job
low : (c : In-Some) → c.in-Some.taker < 400
low c = omega (arith, c.loop-taker.invariant.0 c.in-Some.taker (rw c.in-Some.ensures.steps (Memᴰ.head refl)), c.requires.0)

pub offset_bounds-self-taker : goal.offset_bounds-self-taker
offset_bounds-self-taker c = let b = low (goal.at.offset_bounds-self-taker c).In-Some in omega arith

pub bounds-self-taker : goal.bounds-self-taker
bounds-self-taker c = low (goal.at.bounds-self-taker c).In-Some

pub give-requires : goal.give-requires
give-requires c = (low (goal.at.give-requires c).In-Some, c.requires.4)

pub loop-taker-preserved : goal.loop-taker-preserved
unfolding give_each
loop-taker-preserved c =
    let l = c.loop-taker in
    let a = c.args in
    let t = c.in-Some.taker in
    let s = c.next.new.self in
    let e = c.in-Some.ensures.steps in (
      λ k m. l.invariant.0 k (rw e (Memᴰ.tail m)),
      ap (give_each a.self.release.now a.place a.last (left_at s.rows.now s.giver s.last s.at s.here))
          (c.give.ensures ∙ ap (λ (x : ℕ). gave l.givers x t a.place a.last) c.from.ensures)
          ∙ ap (λ (ks : List ℕ). give_each a.self.release.now a.place a.last ks l.givers) (sym e) ∙ l.invariant.1,
    )

pub returns : goal.returns
unfolding give_each
returns c =
    let l = c.loop-taker in
    let a = c.args in
    ap (λ (ks : List ℕ). give_each a.self.release.now a.place a.last ks l.givers) (sym c.in-None.ensures.steps.0) ∙ l.invariant.1
