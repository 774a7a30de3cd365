-- `questions::sized` meets its contract. Assumes nothing.
use Rattle.questions.specs.QuestionLaws.{wrong-slots, past-limit, zero-board, wrong-boards, boards-by}
use Rattle.laws.specs.Counting.{largest-lt}
use native.Mathlib.Omega.{arith}
use mathlib.Core.Path.{sym, ◌∙◌}
use Rattle.questions.proofs.sized.Goals as goal

pub overflow_add-largest_of : goal.overflow_add-largest_of
overflow_add-largest_of c =
    omega (
      arith,
      c.largest_of.ensures,
      largest-lt c.args.start.now 256 (omega arith) (λ i h. omega (arith, c.type_inv.start i)),
    )

pub returns-then-slots-largest_of : goal.returns-then-slots-largest_of
returns-then-slots-largest_of c = wrong-slots _ _ _ _ _ _ _ c.largest_of.ensures c.if-slots-largest_of.true

pub returns-then-limit-slots : goal.returns-then-limit-slots
returns-then-limit-slots c = past-limit _ _ _ _ _ _ _ c.largest_of.ensures c.if-slots-largest_of.false c.if-limit-slots.true

pub returns-then-not-all_positive : goal.returns-then-not-all_positive
returns-then-not-all_positive c =
    zero-board _ _ _ _ _ _ _ c.largest_of.ensures c.if-slots-largest_of.false c.if-limit-slots.false
    (sym c.all_positive.ensures ∙ c.if-not-all_positive.true)

pub returns-then-boards-largest_of : goal.returns-then-boards-largest_of
returns-then-boards-largest_of c =
    wrong-boards _ _ _ _ _ _ _ c.largest_of.ensures c.if-slots-largest_of.false
    c.if-limit-slots.false (sym c.all_positive.ensures ∙ c.if-not-all_positive.false) _
    c.largest_of-2.ensures c.if-boards-largest_of.true

pub returns : goal.returns
returns c =
    boards-by _ _ _ _ _ _ _ c.largest_of.ensures c.if-slots-largest_of.false
    c.if-limit-slots.false (sym c.all_positive.ensures ∙ c.if-not-all_positive.false) _
    c.largest_of-2.ensures c.if-boards-largest_of.false
