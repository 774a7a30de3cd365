-- `placesets::last_place` meets its contract. Assumes nothing.
use Rattle.std.proofs.Common.{◌<◌, ℕ, refl}
use mathlib.Core.List.{Memᴰ}
use Rattle.rules.specs.Sizes.{max_width}
use Rattle.jobset.specs.Sets.{members}
use Rattle.jobset.specs.Members.{in_members}
use Rattle.placesets.specs.Listing.{leading-start, leading-next, leading_end}
use Rattle.placesets.proofs.last_place.Goals as goal
use Rattle.placesets.proofs.last_place.Goals.{In-Some}

-- all are below eight
small : (c : In-Some) (p : ℕ) → Memᴰ p (members c.args.places) → p < max_width
small c p m = c.requires.1 p ((in_members c.args.places p).0 m).1

pub loop-p-init : goal.loop-p-init
loop-p-init c = rw (c.in_ok-first.ensures, c.into_iter-p-iterator.ensures) (leading-start _ c.in_ok-first.first (members c.in_ok-first.others))

pub later-last-requires : goal.later-last-requires
later-last-requires c =
    let l = c.loop-p.invariant in
    let i = goal.at.later-last-requires c in
    (c.requires.0, small i.In-Some c.loop-p.last l.is-in, small i.In-Some c.in-Some.p (l.inside c.in-Some.p (rw c.in-Some.ensures.steps (Memᴰ.head refl))))

pub loop-p-preserved : goal.loop-p-preserved
loop-p-preserved c = rw c.later-last.ensures (leading-next c.in-Some.p _ (rw c.in-Some.ensures.steps at c.loop-p.invariant))

pub returns : goal.returns
returns c = leading_end c.requires.1 (rw c.in-None.ensures.steps.0 at c.loop-p.invariant)
