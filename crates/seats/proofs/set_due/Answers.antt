-- `seats::set_due` meets its contract. The jobs that the loop has passed are in the due sets. Assumes nothing.
use Rattle.std.proofs.Common.{◌≡◌, ℕ, ◌+◌, ◌-◌, ◌<◌, ◌≤◌, List, length, take, refl, ap, ◌∙◌, add-one, arith}
use Rattle.std.proofs.lemmas.Slice.Zip.{zip_turn, zip_end}
use Rattle.std.proofs.lemmas.List.{length_push, length-take-le, get_or-take}
use Rattle.rules.specs.Basics.{at}
use Rattle.layout.specs.Layout.{due_at}
use Rattle.seats.specs.Due.{with_due}
use Rattle.seats.specs.Words.{with_place, small-place}
use Rattle.seats.proofs.set_due.Goals as goal
use Rattle.seats.proofs.set_due.Goals.{In-Some}

-- the pair of this turn is that of the job behind those that the loop has passed
record Turn (c : In-Some) : Type 0 where
  below : length c.loop-place.yielded < c.args.jobs
  place : c.in-Some.place.now ≡ at c.args.places.now (length c.loop-place.yielded)
  tail : c.in-Some.behind.now ≡ at c.args.tail.now (length c.loop-place.yielded)

turn : (c : In-Some) → Turn c
turn c =
    let a = c.args in
    let few : a.jobs ≤ length a.places.now = omega arith in
    let n = length-take-le a.jobs a.places.now few in
    let l = c.loop-place in
    let firsts = take a.jobs a.places.now in
    let t = zip_turn firsts a.tail.now l.yielded _ _ c.next.new.self _ (cc) (cc) l.yielded_by _ c.in-Some.is c.next.ensures.steps in
    let b : length c.loop-place.yielded < a.jobs = omega (arith, t.0) in
    record {
      below = b;
      place = t.2 0 ∙ get_or-take a.jobs a.places.now (length c.loop-place.yielded) 0 b;
      tail = t.3 0;
    }

pub loop-place-init : goal.loop-place-init
unfolding with_due
loop-place-init c = (c.requires.3, refl)

pub add_place-requires : goal.add_place-requires
add_place-requires c =
    let a = c.args in
    let p = c.requires in
    let t = turn (goal.at.add_place-requires c).In-Some in
    let d = p.2 (length c.loop-place.yielded) t.below in (
      omega arith,
      omega (arith, c.from-in-loop-place.ensures, t.place, d.0),
      c.loop-place.invariant.0.1.sets (due_at + (a.slots - c.from.result)) (omega arith),
    )

pub loop-place-preserved : goal.loop-place-preserved
unfolding with_due
loop-place-preserved c =
    let l = c.loop-place in
    let a = c.args in
    let n = length l.yielded in
    let t = turn (goal.at.loop-place-preserved c).In-Some in
    let low = (c.requires.2 n t.below).0 in
    let k = due_at + (a.slots - at a.tail.now n) in
    let e : c.add_place.new.tables ≡ with_place l.tables k (at a.places.now n) = rw
    (← t.tail, ← t.place, ← c.from.ensures, ← c.from-in-loop-place.ensures) c.add_place.ensures in (
      (l.invariant.0.0, rw e (small-place l.invariant.0.0 l.tables k (at a.places.now n) l.invariant.0.1 (omega arith) low)),
      rw (length_push, add-one n) (e ∙ ap (λ (x : List ℕ). with_place x k (at a.places.now n)) l.invariant.1),
    )

pub returns : goal.returns
returns c =
    let a = c.args in
    let few : a.jobs ≤ length a.places.now = omega arith in
    let l = c.loop-place in
    let firsts = take a.jobs a.places.now in
    let t = zip_end firsts a.tail.now l.yielded _ _ c.next.new.self _ (cc) (cc) l.yielded_by c.in-None.is c.next.ensures.steps in
    let e : length c.loop-place.yielded ≡ a.jobs = omega (arith, t, length-take-le a.jobs a.places.now few) in
    rw e at c.loop-place.invariant.1
