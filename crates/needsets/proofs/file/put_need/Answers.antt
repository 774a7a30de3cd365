-- `needsets::file::put_need` meets its contract. Assumes nothing.
use mathlib.Core.Path.{ap₂}
use mathlib.Core.List.{[], ◌∷◌, ◌++◌}
use Prim.Native.Nat.{ℕ}
use native.Mathlib.Numerals.{add-one}
use lib.ListN.{drop}
use Rattle.rules.specs.Numbers.{low, high}
use Rattle.rules.specs.Fields.{field}
use Rattle.rules.specs.SmallGates.{need_field}
use Rattle.needsets.proofs.file.put_need.Goals as goal

pub returns : goal.returns
unfolding need_field field low high
returns c =
    let a = c.args in
    rw c.copy_from_slice.ensures.after (ap₂ (λ (x y : ℕ). (4 ∷ 2 ∷ 0 ∷ x ∷ y ∷ []) ++ drop 5 a.file.now) (add-one a.giver) (add-one a.taker))
