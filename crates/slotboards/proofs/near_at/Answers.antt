-- `slotboards::near_at` meets its contract. Assumes nothing.
use mathlib.Core.Path.{ap, ◌∙◌}
use Rattle.jobset.specs.Sets.{intersection}
use Rattle.jobset.specs.declared.Set.{Set}
use Rattle.places.specs.Slot.{near_at}
use Rattle.slotboards.proofs.near_at.Goals as goal

pub returns : goal.returns
unfolding near_at
returns c = c.intersection.ensures ∙ ap (λ (x : Set). intersection x c.args.last) c.givers_at-givers.ensures
