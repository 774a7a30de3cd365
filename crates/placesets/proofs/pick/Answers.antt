-- `placesets::pick` meets its contract. Assumes nothing.
use Rattle.std.proofs.Common.{◌≡◌, ◌<◌, refl, sym, ap, ◌∙◌}
use mathlib.Core.List.{Memᴰ}
use Rattle.rules.specs.Sizes.{max_width}
use Rattle.rules.specs.Basics.{at, choose}
use Rattle.jobset.specs.declared.Set.{Set}
use Rattle.jobset.specs.Sets.{is_empty, intersection}
use Rattle.jobset.specs.Members.{in_members}
use Rattle.places.specs.Slot.{near_at}
use Rattle.layout.specs.Layout.{tables_in}
use Rattle.placesets.specs.Picking.{pick_from, picked_of}
use Rattle.placesets.proofs.pick.Goals as goal
use Rattle.placesets.proofs.pick.Goals.{After-intersection-near, After-is_empty, In-Some, at-After-is_empty}

-- the place at the digit
place : (c : In-Some) → (c.in-Some.k < max_width) × (at c.args.row.now c.in-Some.k < 64)
place c = c.requires.1 c.in-Some.k (c.loop-k.invariant.inside c.in-Some.k (rw c.in-Some.ensures.steps (Memᴰ.head refl)))

-- its givers in the slot before
near : (c : After-intersection-near) → let a = c.args in
    c.intersection-near.result ≡ near_at (tables_in a.tables.now) a.slot a.ran (at a.row.now c.in-Some.k)
unfolding near_at
near c = c.intersection-near.ensures ∙ ap (λ (s : Set). intersection s c.args.ran) (c.givers_at.ensures ∙ rw c.from-p.ensures refl)

-- whether they are none of those so far
apart : (c : After-is_empty) → let a = c.args in
    is_empty (intersection c.loop-k.givers (near_at (tables_in a.tables.now) a.slot a.ran (at a.row.now c.in-Some.k))) ≡ c.is_empty.result
apart c = rw (← (near (at-After-is_empty c).After-intersection-near), ← c.intersection-both.ensures) (sym c.is_empty.ensures)

pub loop-k-init : goal.loop-k-init
unfolding picked_of
loop-k-init c = record {
  inside = λ k m. ((in_members c.args.number k).0 (rw c.into_iter-k-iterator.ensures at m)).1;
  same = rw c.into_iter-k-iterator.ensures refl;
}

pub bounds-row-k : goal.bounds-row-k
bounds-row-k c = (place (goal.at.bounds-row-k c).In-Some).0

pub givers_at-requires : goal.givers_at-requires
givers_at-requires c = (c.requires.0, rw c.from-p.ensures (place (goal.at.givers_at-requires c).In-Some).1)

pub returns-then-not-is_empty : goal.returns-then-not-is_empty
unfolding pick_from choose
returns-then-not-is_empty c =
    rw (c.in-Some.ensures.steps, apart (goal.at.returns-then-not-is_empty c).After-is_empty ∙ c.if-not-is_empty.true) at c.loop-k.invariant.same

pub with-places-requires : goal.with-places-requires
with-places-requires c = rw c.from-p.ensures (place (goal.at.with-places-requires c).In-Some).1

pub loop-k-preserved : goal.loop-k-preserved
unfolding pick_from choose
loop-k-preserved c =
    let l = c.loop-k.invariant in
    let i = goal.at.loop-k-preserved c in record {
      inside = λ k m. l.inside k (rw c.in-Some.ensures.steps (Memᴰ.tail m));
      same = rw (c.union-givers.ensures, c.with-places.ensures, near i.After-intersection-near, c.from-p.ensures)
          (rw (c.in-Some.ensures.steps, apart i.After-is_empty ∙ c.if-not-is_empty.false) at l.same);
    }

pub returns : goal.returns
unfolding pick_from
returns c = rw c.in-None.ensures.steps.0 at c.loop-k.invariant.same
