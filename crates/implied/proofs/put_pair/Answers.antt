-- `implied::put_pair` meets its contract. Assumes nothing.
use mathlib.Core.Path.{ap₂}
use Prim.Native.Nat.{ℕ, ◌+◌}
use native.Mathlib.Numerals.{add-one}
use lib.ListN.{set}
use Rattle.rules.specs.Implied.{pair_numbers}
use Rattle.laws.specs.Writing.{put}
use Rattle.implied.proofs.put_pair.Goals as goal

pub returns : goal.returns
unfolding put pair_numbers
returns c =
    let a = c.args in
    ap₂ (λ (x y : ℕ). set (set a.list.now a.at x) (a.at + 1) y) (add-one a.giver) (add-one a.taker)
