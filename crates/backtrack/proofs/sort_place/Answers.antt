-- `backtrack::sort_place` meets its contract. Assumes nothing.
use mathlib.Core.Bool.{true}
use mathlib.Core.Path.{◌≡◌, sym, ◌∙◌}
use Rattle.rules.specs.Basics.{choose}
use Rattle.jobset.specs.Sets.{is_subset, is_empty, is_one, intersection}
use Rattle.places.specs.Slot.{is_forced, is_tied}
use Rattle.backtrack.specs.Sorting.{sort_place}
use Rattle.backtrack.proofs.sort_place.Goals as goal
use Rattle.backtrack.proofs.sort_place.Goals.{After-intersection-near, After-is_empty, After-is_one}

-- the givers are done
ready : (c : After-intersection-near) → is_subset c.args.givers c.args.done ≡ true
ready c = sym c.is_subset.ensures ∙ c.if-not-is_subset.false

-- whether none of them ran in the slot before
none-near : (c : After-is_empty)
    → is_empty (intersection c.args.givers
    c.args.ran) ≡ c.is_empty.result
none-near c = rw (← c.intersection-near.ensures) (sym c.is_empty.ensures)

-- whether one of them did
one-near : (c : After-is_one)
    → is_one (intersection c.args.givers
    c.args.ran) ≡ c.is_one.result
one-near c = rw (← c.intersection-near.ensures) (sym c.is_one.ensures)

pub returns-then-not-is_subset : goal.returns-then-not-is_subset
unfolding sort_place is_forced is_tied choose
returns-then-not-is_subset c = rw (sym c.is_subset.ensures ∙ c.if-not-is_subset.true)

pub returns-then-is_empty : goal.returns-then-is_empty
unfolding sort_place is_forced is_tied choose
returns-then-is_empty c =
    let i = goal.at.returns-then-is_empty c in
    rw (ready i.After-intersection-near, none-near i.After-is_empty ∙ c.if-is_empty.true, c.with.ensures)

pub returns-then-not-is_one : goal.returns-then-not-is_one
unfolding sort_place is_forced is_tied choose
returns-then-not-is_one c =
    rw (
      ready (goal.at.returns-then-not-is_one c).After-intersection-near,
      none-near (goal.at.returns-then-not-is_one c).After-is_empty
          ∙ c.if-is_empty.false,
      one-near (goal.at.returns-then-not-is_one c).After-is_one ∙ c.if-not-is_one.true,
    )

pub returns : goal.returns
unfolding sort_place is_forced is_tied choose
returns c =
    rw (
      ready (goal.at.returns c).After-intersection-near,
      none-near (goal.at.returns c).After-is_empty ∙ c.if-is_empty.false,
      one-near (goal.at.returns c).After-is_one
          ∙ c.if-not-is_one.false,
      c.with-2.ensures,
      c.union-2.ensures,
      c.intersection.ensures,
      c.union.ensures,
      c.intersection-near.ensures,
    )
