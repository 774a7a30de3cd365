-- `slotstates::Ranks::number` meets its contract. Assumes nothing.
use Rattle.std.proofs.Common.{arith, rules}
use Rattle.threes.specs.Threes.{number_of}
use Rattle.threes.proofs.Threes.{number_lt}
use Rattle.slotstates.proofs.Ranks.number.Goals as goal

pub overflow_add-result : goal.overflow_add-result
unfolding number_of
overflow_add-result c =
    let ranks = c.args.self in
    omega (arith, c.entry.ensures, c.entry-2.ensures, number_lt ranks.begun ranks.running)

pub returns : goal.returns
unfolding number_of
returns c = search rules
