-- `needsets::numbers::set_count` meets its contract. Assumes nothing.
use Prim.Native.Nat.{◌*◌}
use native.Mathlib.Omega.{arith}
use Rattle.needsets.specs.Sizes.{places-few, shifted}
use Rattle.needsets.proofs.numbers.set_count.Goals as goal

pub overflow_mul-result : goal.overflow_mul-result
overflow_mul-result c = omega (arith, places-few c.requires)

pub overflow_shl-result : goal.overflow_shl-result
overflow_shl-result c = omega (arith, places-few c.requires)

pub returns : goal.returns
returns c = let n = c.args.jobs in shifted (n * n) (places-few c.requires)
