-- `levels::round_half_even` meets its contract. Assumes nothing.
use Rattle.std.proofs.Common.{◌≡◌, ◌%◌, ◌<◌, arith}
use Rattle.std.proofs.lemmas.Grind.{common_steps}
use Rattle.levels.specs.Levels.{by-rest}
use Rattle.levels.proofs.round_half_even.Goals as goal

pub returns-in-Less : goal.returns-in-Less
returns-in-Less c =
    let down : c.args.millimetres % 10 < 5 = grind (arith, common_steps) in by-rest _ _ (λ h. omega arith) (λ h. omega arith) (λ h. omega arith)

pub returns-in-Equal : goal.returns-in-Equal
returns-in-Equal c =
    let half : c.args.millimetres % 10 ≡ 5 = grind (arith, common_steps) in by-rest _ _ (λ h. omega arith) (λ h. omega arith) (λ h. omega arith)

pub returns-in-Greater : goal.returns-in-Greater
returns-in-Greater c =
    let up : 5 < c.args.millimetres % 10 = grind (arith, common_steps) in by-rest _ _ (λ h. omega arith) (λ h. omega arith) (λ h. omega arith)
