use mathlib.Core.Path.{◌≡◌}
use lib.ListN.{length}
use Rattle.needsets.specs.Starts.{fewest_by}
use Rattle.needsets.proofs.starts.fewest.Given as goal

abbrev pub invariant-loop-index : goal.invariant-loop-index
invariant-loop-index l = (length l.starts ≡ 4) × (l.least ≡ fewest_by l.jobs l.number l.index)
