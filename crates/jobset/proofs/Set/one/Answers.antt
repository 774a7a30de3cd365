-- `jobset::Set::one` meets its contract: below 64 the shift loses no bit. Assumes nothing.
use mathlib.Core.Path.{ap}
use Prim.Native.Nat.{ℕ}
use Rattle.jobset.specs.Sets.{one}
use Rattle.jobset.specs.Digits.{shifted_one}
use Rattle.jobset.proofs.Set.one.Goals as goal

pub returns : goal.returns
unfolding one
returns c = ap (λ (bits : ℕ). record { bits = bits }) (shifted_one 64 c.args.i c.requires)
