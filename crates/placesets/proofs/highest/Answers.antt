-- `placesets::highest` meets its contract. Assumes nothing.
use Rattle.std.proofs.Common.{◌≡◌, ◌-◌, ◌*◌, ◌%◌, ◌^◌, sym, ◌∙◌, arith, pow_mono, add-one}
use Rattle.jobset.specs.Digits.{shifted_one}
use Rattle.placesets.specs.Numbers.{numbers-none, numbers-some, end-first, end-too-many}
use Rattle.placesets.proofs.highest.Goals as goal
use Rattle.placesets.proofs.highest.Goals.{Else-size-count}

-- the two powers, as the code shifts them
power : (c : Else-size-count) → (1 * 2 ^ c.args.size) % 2 ^ 64 ≡ 2 ^ c.args.size
power c = let p = c.requires in shifted_one 64 c.args.size (omega arith)

less : (c : Else-size-count) → let a = c.args in (1 * 2 ^ (a.size - a.count)) % 2 ^ 64 ≡ 2 ^ (a.size - a.count)
less c = let p = c.requires in shifted_one 64 (c.args.size - c.args.count) (omega arith)

pub returns-then-size-count : goal.returns-then-size-count
returns-then-size-count c = sym (numbers-none c.args.count _ (end-too-many c.args.size c.args.count c.requires c.if-size-count.true))

pub overflow_sub-result : goal.overflow_sub-result
overflow_sub-result c =
    let e = (goal.at.overflow_sub-result c).Else-size-count in
    rw (power e, less e) (pow_mono (omega arith))

pub returns : goal.returns
returns c =
    let e = (goal.at.returns c).Else-size-count in
    rw (power e, less e) (numbers-some c.args.count (2 ^ c.args.size) _ (end-first c.args.size c.args.count c.requires (omega arith) ∙ add-one _))
