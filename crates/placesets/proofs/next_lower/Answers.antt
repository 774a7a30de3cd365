-- `placesets::next_lower` meets its contract. Assumes nothing.
use Rattle.std.proofs.Common.{◌≡◌, ◌-◌, ◌+◌, ◌*◌, ◌%◌, ◌^◌, ℕ, sym, ap, ◌∙◌, arith, add-one}
use Rattle.std.proofs.Math.Path.{ap₂}
use Rattle.jobset.specs.declared.Set.{Set}
use Rattle.jobset.specs.Sets.{is_empty, lowest, intersection}
use Rattle.jobset.specs.Digits.{shifted_one}
use Rattle.placesets.specs.Numbers.{digits_of, end-le, numbers-none, numbers-some, above, upper, taken_off, Moves, end-last, end-next}
use Rattle.placesets.proofs.next_lower.Goals as goal
use Rattle.placesets.proofs.next_lower.Goals.{After-is_empty, After-lowest-2, Else-is_empty, at-After-is_empty, at-After-lowest-2, at-Else-is_empty}

above-is : (c : After-is_empty) → record { bits = c.from.result + 1 } ≡ above c.args.number
above-is c = ap (λ (x : ℕ). record { bits = x + 1 }) c.from.ensures

upper-is : (c : After-is_empty) → c.intersection-upper.result ≡ upper c.args.number
upper-is c = c.intersection-upper.ensures ∙ ap₂ intersection (ap (λ (x : ℕ). record { bits = x }) c.of_byte.ensures.0) (above-is c)

-- what they have in common is not empty
moves : (c : Else-is_empty) → Moves c.args.number
moves c = end-next c.args.number c.of_byte.ensures.1
    (sym (ap is_empty (upper-is (at-Else-is_empty c).After-is_empty)) ∙ sym c.is_empty.ensures ∙ c.if-is_empty.false)

-- the start of a step
abbrev tested : After-lowest-2 → Else-is_empty
tested c = (at-After-lowest-2 c).Else-is_empty

upper-low : (c : After-lowest-2) → c.lowest.result ≡ lowest (upper c.args.number)
upper-low c = c.lowest.ensures ∙ ap lowest (upper-is (at-Else-is_empty (tested c)).After-is_empty)

above_low : (c : After-lowest-2) → c.lowest-2.result ≡ lowest (above c.args.number)
above_low c = c.lowest-2.ensures ∙ ap lowest (above-is (at-Else-is_empty (tested c)).After-is_empty)

-- the power, as the code shifts it
power : (c : After-lowest-2) → (1 * 2 ^ (c.lowest.result - c.lowest-2.result - 1)) % 2 ^ 64 ≡ taken_off c.args.number
power c =
    let n = c.args.number in
    rw (upper-low c, above_low c) (shifted_one 64 (lowest (upper n) - lowest (above n) - 1) (omega (arith, (moves (tested c)).low)))

upper-bits : (c : After-lowest-2) → c.intersection-upper.result.bits ≡ (upper c.args.number).bits
upper-bits c = ap (λ (s : Set). s.bits) (upper-is (at-Else-is_empty (tested c)).After-is_empty)

pub returns-then-is_empty : goal.returns-then-is_empty
returns-then-is_empty c =
    sym (numbers-none (digits_of c.args.number) c.args.number (end-last c.args.number c.of_byte.ensures.1
    (sym (ap is_empty (upper-is (goal.at.returns-then-is_empty c).After-is_empty)) ∙ sym c.is_empty.ensures ∙ c.if-is_empty.true)))

pub overflow_sub-moved : goal.overflow_sub-moved
overflow_sub-moved c = let e = (goal.at.overflow_sub-moved c).After-lowest-2 in omega (arith, upper-low e, above_low e, (moves (tested e)).higher)

pub overflow_sub-moved-2 : goal.overflow_sub-moved-2
overflow_sub-moved-2 c = let e = (goal.at.overflow_sub-moved-2 c).After-lowest-2 in omega (arith, upper-low e, above_low e, (moves (tested e)).higher)

pub overflow_shl-result : goal.overflow_shl-result
overflow_shl-result c = let e = (goal.at.overflow_shl-result c).After-lowest-2 in omega (arith, upper-low e, above_low e, (moves (tested e)).low)

pub overflow_sub-result : goal.overflow_sub-result
overflow_sub-result c = let e = (goal.at.overflow_sub-result c).After-lowest-2 in rw (power e, upper-bits e) (moves (tested e)).room

pub overflow_cast-result-2 : goal.overflow_cast-result-2
overflow_cast-result-2 c =
    let e = (goal.at.overflow_cast-result-2 c).After-lowest-2 in
    let n = c.args.number in
    rw (power e, upper-bits e) (omega (arith, (moves (tested e)).end_is, end-le (digits_of n) n, c.of_byte.ensures.1))

pub returns : goal.returns
returns c =
    let e = (goal.at.returns c).After-lowest-2 in
    let n = c.args.number in
    rw (power e, upper-bits e) (numbers-some (digits_of n) n _ ((moves (tested e)).end_is ∙ add-one _))
