-- `levels::centimetres` meets its contract. Assumes nothing.
use Rattle.std.proofs.Common.{◌≡◌, ◌-◌, ◌<◌, ◌≤◌, sym, ap, ◌∙◌, arith}
use Rattle.std.proofs.lemmas.Int.{ints}
use Rattle.rules.specs.Numbers.{round_half_even}
use Rattle.laws.specs.Rounding.{rounded-low}
use Rattle.levels.specs.Levels.{twos_complement, rounded-above, rounded-below}
use Rattle.levels.proofs.centimetres.Goals as goal

pub returns-then-is_negative : goal.returns-then-is_negative
unfolding twos_complement
returns-then-is_negative c =
    let level = c.args.level in
    let below : 32768 ≤ level = grind (arith, ints) in
    let fits : level < 65536 = omega arith in
    let size : c.unsigned_abs.result ≡ 65536 - level = grind (arith, ints) in
    let low = rounded-low (65536 - level) in
    let nearest : c.round_half_even-nearest.result ≡ round_half_even (65536 - level) = c.round_half_even-nearest.ensures ∙ ap round_half_even size in
    omega (arith, c.wrapping_neg.ensures, rounded-below level below fits)

pub returns-else-is_negative : goal.returns-else-is_negative
returns-else-is_negative c =
    let level = c.args.level in
    let above : level < 32768 = grind (arith, ints) in
    let size : c.unsigned_abs.result ≡ level = grind (arith, ints) in
    c.round_half_even-nearest.ensures ∙ ap round_half_even size ∙ sym (rounded-above level above)
