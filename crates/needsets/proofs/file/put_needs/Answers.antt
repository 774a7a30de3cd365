-- `needsets::file::put_needs` meets its contract. The needs of the places from the loop's up are still to come. Assumes nothing.
use mathlib.Core.Path.{◌≡◌, sym, ap, ◌∙◌}
use mathlib.Core.Bool.{true}
use mathlib.Core.List.{List}
use Prim.Native.Nat.{ℕ, ◌+◌, ◌/◌, ◌%◌, ◌≤◌}
use native.Mathlib.Omega.{arith}
use borrow.Author.Rules.{rules}
use lib.ListN.{length}
use Rattle.rules.specs.SmallGates.{need_field}
use Rattle.laws.specs.Writing.{put, so-far-room, so-far-put, so_far_skip, so-far-size, so-far-end}
use Rattle.laws.specs.SmallGates.{of-bit}
use Rattle.needsets.specs.Files.{place_bytes}
use Rattle.needsets.specs.FileLaws.{put-part, part-long, need-size, place-need, place_none, places-are}
use Rattle.needsets.proofs.file.put_needs.Goals as goal
use Rattle.needsets.proofs.file.put_needs.Goals.{After-is_set, then-is_set, else-is_set}

-- what is written at a place with a need
written : (c : After-is_set) → c.is_set.result ≡ true → let a = c.args in let j = c.loop-place.place in
    place_bytes a.jobs a.number j ≡ need_field (j / a.jobs, j % a.jobs)
written c holds = place-need _ _ _ (sym c.is_set.ensures ∙ holds)

size : (c : After-is_set) → c.is_set.result ≡ true → let a = c.args in length (place_bytes a.jobs a.number c.loop-place.place) ≡ 5
size c holds = ap length (written c holds) ∙ need-size _

-- there is room for it
room : (c : After-is_set) → c.is_set.result ≡ true → c.loop-place.at + 5 ≤ length c.loop-place.file
room c holds =
    let a = c.args in
    let all = ap length (places-are a.jobs a.number) in
    let fit = c.requires.2 in
    omega (arith, so-far-room c.loop-place.invariant c.loop-place-test.true (omega (arith, all, fit)), size c holds)

pub slice_bounds-put_need-count : goal.slice_bounds-put_need-count
slice_bounds-put_need-count c = let h = room (goal.at.slice_bounds-put_need-count c).After-is_set c.if-is_set.true in search rules

pub slice_bounds-put_need-start : goal.slice_bounds-put_need-start
slice_bounds-put_need-start c = let h = room (goal.at.slice_bounds-put_need-start c).After-is_set c.if-is_set.true in search rules

pub put_need-requires : goal.put_need-requires
put_need-requires c =
    let l = c.loop-place in
    let p = c.requires in
    let h = c.loop-place-test.true in
    let giver = (of-bit _ l.place h).0 in
    let taker = (of-bit _ l.place h).1 in
    (omega arith, omega arith, omega (arith, room (goal.at.put_need-requires c).After-is_set c.if-is_set.true, part-long l.at l.file))

pub overflow_add-at : goal.overflow_add-at
overflow_add-at c = let h = room (goal.at.overflow_add-at c).After-is_set c.if-is_set.true in search rules

pub loop-place-preserved : goal.loop-place-preserved
loop-place-preserved c =
    let asked = (goal.at.loop-place-preserved c).After-is_set in
    let l = c.loop-place in
    elim c.if-is_set.branch [
      | then-is_set w ↦
          let holds = w.if-is_set.true in
          so-far-put l.invariant c.loop-place-test.true _ _ (w.at-is ∙ omega (arith, size asked holds))
          (w.file-is ∙ put-part l.at 5 _ l.file _ (need-size _) (room asked holds) w.put_need.ensures
          ∙ ap (λ (xs : List ℕ). put l.at xs l.file) (sym (written asked holds)))
      | else-is_set w ↦
          rw (w.at-is, w.file-is) (so_far_skip l.invariant c.loop-place-test.true (place_none _ _ _ (sym c.is_set.ensures ∙ w.if-is_set.false)))
    ]

pub returns : goal.returns
returns c =
    let a = c.args in
    let s = c.loop-place.invariant in
    let all = places-are a.jobs a.number in record {
      size = so-far-size s c.loop-place-test.false ∙ ap (λ (xs : List ℕ). a.first + length xs) all;
      bytes = so-far-end s c.loop-place-test.false ∙ ap (λ (xs : List ℕ). put a.first xs a.file.now) all;
    }
