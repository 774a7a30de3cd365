-- `slotboards::path_of` meets its contract. Assumes nothing.
use Rattle.std.proofs.Common.{◌≡◌, sym, ◌∙◌, ◌<◌, ◌≤◌, length, take, arith}
use Rattle.std.proofs.lemmas.Slice.Zip.{zip_turn, zip_end}
use Rattle.std.proofs.lemmas.List.{length_push, length-take-le, get_or-take}
use Rattle.rules.specs.Basics.{at}
use Rattle.slotboards.specs.Paths.{path-none, path-turn, more_byte}
use Rattle.slotboards.proofs.path_of.Goals as goal
use Rattle.slotboards.proofs.path_of.Goals.{In-Some}

-- the pair of this turn is that of the job behind those that the loop has passed
record Turn (c : In-Some) : Type 0 where
  below : length c.loop-start.yielded < c.args.jobs
  start : c.in-Some.start.now ≡ at c.args.starts.now (length c.loop-start.yielded)
  place : c.in-Some.place.now ≡ at c.args.places.now (length c.loop-start.yielded)
  in_path : (c.in-Some.start.now < 64) × (c.in-Some.place.now < 8)

turn : (c : In-Some) → Turn c
turn c =
    let a = c.args in
    let l = c.loop-start in
    let few : a.jobs ≤ length a.starts.now = omega arith in
    let n = length-take-le a.jobs a.starts.now few in
    let firsts = take a.jobs a.starts.now in
    let t = zip_turn firsts a.places.now l.yielded _ _ c.next.new.self _ (cc) (cc) l.yielded_by _ c.in-Some.is c.next.ensures.steps in
    let b : length l.yielded < a.jobs = omega (arith, t.0) in
    let s = t.2 0 ∙ get_or-take a.jobs a.starts.now (length l.yielded) 0 b in
    let i = c.requires.1 (length l.yielded) b in
    record {
      below = b;
      start = s;
      place = t.3 0;
      in_path = (rw s i.0, rw (t.3 0) i.1);
    }

pub loop-start-init : goal.loop-start-init
loop-start-init c = c.requires.2 ∙ sym (path-none _ _)

pub jobs_of-before-requires : goal.jobs_of-before-requires
jobs_of-before-requires c = rw c.from-slot.ensures (turn (goal.at.jobs_of-before-requires c).In-Some).in_path.0

pub with-after-requires : goal.with-after-requires
with-after-requires c = omega (arith, c.from.ensures, (turn (goal.at.with-after-requires c).In-Some).in_path.1)

pub overflow_cast-path : goal.overflow_cast-path
overflow_cast-path c =
    let l = c.loop-start in
    let t = turn (goal.at.overflow_cast-path c).In-Some in
    let w = more_byte c.args.starts.now c.args.places.now c.args.jobs (length l.yielded) c.requires.1 t.below in
    let q : c.with-after.result.bits < 256 =
    rw (c.with-after.ensures, c.from.ensures, c.jobs_of-before.ensures, c.from-slot.ensures, l.invariant, t.start, t.place) w in
    omega arith

pub bounds-path-slot : goal.bounds-path-slot
bounds-path-slot c = rw c.from-slot.ensures (turn (goal.at.bounds-path-slot c).In-Some).in_path.0

pub loop-start-preserved : goal.loop-start-preserved
loop-start-preserved c =
    let l = c.loop-start in
    let t = turn (goal.at.loop-start-preserved c).In-Some in
    rw (length_push, c.with-after.ensures, c.from.ensures, c.jobs_of-before.ensures, c.from-slot.ensures, l.invariant, t.start, t.place)
    (path-turn _ _ _)

pub returns : goal.returns
returns c =
    let a = c.args in
    let l = c.loop-start in
    let few : a.jobs ≤ length a.starts.now = omega arith in
    let firsts = take a.jobs a.starts.now in
    let t = zip_end firsts a.places.now l.yielded _ _ c.next.new.self _ (cc) (cc) l.yielded_by c.in-None.is c.next.ensures.steps in
    let e : length l.yielded ≡ a.jobs = omega (arith, t, length-take-le a.jobs a.starts.now few) in
    rw e at l.invariant
