-- `slotstates::put_word` meets its contract. Assumes nothing.
use Rattle.std.proofs.Common.{◌≡◌, ap, ◌∙◌, List, ℕ, ◌/◌, ◌%◌, arith}
use Rattle.rules.specs.Basics.{at}
use Rattle.rules.specs.Numbers.{low, high}
use Rattle.laws.specs.Writing.{put}
use Rattle.slotstates.proofs.put_word.Goals as goal

pub returns : goal.returns
unfolding put low high
returns c =
    let first : at c.to_le_bytes.result 0 ≡ c.args.w % 256 = ap (λ (l : List ℕ). at l 0) c.to_le_bytes.ensures in
    let second : at c.to_le_bytes.result 1 ≡ c.args.w / 256 = ap (λ (l : List ℕ). at l 1) c.to_le_bytes.ensures ∙ omega arith in
    rw (first, second)
