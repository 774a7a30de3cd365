-- `writer::put_fixed` meets its contract. Assumes nothing.
use Rattle.std.proofs.Common.{◌≡◌, ap, ◌∙◌, List, ℕ, ◌++◌, ◌/◌, ◌%◌, drop, arith}
use Rattle.rules.specs.Basics.{at}
use Rattle.rules.specs.Numbers.{low, high}
use Rattle.writer.specs.Written.{fixed_bytes}
use Rattle.writer.proofs.put_fixed.Goals as goal

pub returns : goal.returns
unfolding fixed_bytes low high
returns c =
    let first : at c.to_le_bytes.result 0 ≡ c.args.level % 256 = ap (λ (l : List ℕ). at l 0) c.to_le_bytes.ensures in
    let second : at c.to_le_bytes.result 1 ≡ c.args.level / 256 = ap (λ (l : List ℕ). at l 1) c.to_le_bytes.ensures ∙ omega arith in
    rw (← first, ← second) (ap (λ (x : List ℕ). x ++ drop 7 c.args.table.now) c.copy_from_slice.ensures.after)
