-- `jobset::Set::rest` meets its contract: the code's number is that of the next smaller subset. Assumes nothing.
use Rattle.std.proofs.Common.{rules}
use native.Mathlib.Omega.{arith}
use mathlib.Core.Path.{ap, ◌∙◌}
use Prim.Native.Nat.{ℕ, ◌-◌}
use borrow.Author.Tests.{eqb-false}
use lib.Bits.{and_comm}
use Rattle.jobset.specs.Sets.{is_empty, next_below}
use Rattle.jobset.specs.Rest.{next-rest}
use Rattle.jobset.proofs.Set.rest.Goals as goal

pub overflow_sub-result : goal.overflow_sub-result
unfolding is_empty
overflow_sub-result c =
    let z = eqb-false c.args.self.bits 0 c.requires in
    omega arith

pub returns : goal.returns
unfolding next_below
returns c =
    let s = c.args.self in
    ap (λ (n : ℕ). record { bits = n }) (and_comm s.bits (s.bits - 1)) ∙ next-rest s (search rules) c.requires
