-- `bitmap::mark` meets its contract. Assumes nothing.
use Rattle.std.proofs.Common.{◌<◌, ◌%◌, arith}
use Rattle.std.proofs.lemmas.Nat.{one_shl}
use Rattle.bitmap.specs.Marks.{with_mark}
use Rattle.bitmap.proofs.mark.Goals as goal

pub returns : goal.returns
unfolding with_mark
returns c = let h : c.args.k % 8 < 8 = omega arith in rw (one_shl (c.args.k % 8) 8 h)
