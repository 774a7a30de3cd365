-- `rows::row_at` meets its contract. Assumes nothing.
use Rattle.rows.specs.RowWays.{row-not-whole, other_tag, row-short, row-long, bad-name, row_ends, row-found}
use Rattle.laws.specs.Tests.{T_true}
use mathlib.Core.Path.{sym, ◌∙◌}
use borrow.Author.Rules.{rules}
use Rattle.rows.proofs.row_at.Goals as goal

pub returns-then-not-is_whole : goal.returns-then-not-is_whole
returns-then-not-is_whole c = row-not-whole _ _ (sym c.is_whole.ensures ∙ c.if-not-is_whole.true)

pub returns-then-table-offset-ne17 : goal.returns-then-table-offset-ne17
returns-then-table-offset-ne17 c = other_tag _ _ c.if-table-offset-ne17.true

pub value_at-v-requires : goal.value_at-v-requires
value_at-v-requires c = (T_true _).1 (sym c.is_whole.ensures ∙ c.if-not-is_whole.false)

pub returns-then-size-lt5 : goal.returns-then-size-lt5
returns-then-size-lt5 c = row-short _ _ _ c.value_at-v.ensures c.if-size-lt5.true

pub returns-then-size-gt16 : goal.returns-then-size-gt16
returns-then-size-gt16 c = row-long _ _ _ c.value_at-v.ensures c.if-size-gt16.true

pub returns-then-not-name_ok : goal.returns-then-not-name_ok
returns-then-not-name_ok c = bad-name _ _ _ c.value_at-v.ensures (sym c.name_ok.ensures ∙ c.if-not-name_ok.true)

pub overflow_add-result : goal.overflow_add-result
overflow_add-result c =
    let h = row_ends _ _ _ c.value_at-v.ensures
    (sym c.is_whole.ensures
    ∙ c.if-not-is_whole.false) in search rules

pub overflow_add-result-2 : goal.overflow_add-result-2
overflow_add-result-2 c =
    let h = row_ends _ _ _ c.value_at-v.ensures
    (sym c.is_whole.ensures
    ∙ c.if-not-is_whole.false) in search rules

pub returns : goal.returns
returns c =
    row-found _ _ _ c.value_at-v.ensures
    (sym c.is_whole.ensures
    ∙ c.if-not-is_whole.false)
    c.if-table-offset-ne17.false c.if-size-lt5.false c.if-size-gt16.false
    (sym c.name_ok.ensures ∙ c.if-not-name_ok.false)
