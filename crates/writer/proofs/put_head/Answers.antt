-- `writer::put_head` meets its contract. Assumes nothing.
use Rattle.std.proofs.Common.{ap, List, ℕ, ◌++◌, drop}
use Rattle.writer.specs.Written.{head_bytes}
use Rattle.writer.proofs.put_head.Goals as goal

pub returns : goal.returns
unfolding head_bytes
returns c = ap (λ (x : List ℕ). x ++ drop 6 c.args.table.now) c.copy_from_slice.ensures.after
