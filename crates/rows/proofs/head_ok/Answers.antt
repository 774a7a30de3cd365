-- `rows::head_ok` meets its contract. Assumes nothing.
use Rattle.rows.specs.RowWays.{head-not-whole, head_in, other-head, other-size, edition-in, edition-by}
use Rattle.laws.specs.Tests.{T_true}
use mathlib.Core.Path.{sym, ◌∙◌}
use borrow.Author.Rules.{rules}
use Rattle.rows.proofs.head_ok.Goals as goal

pub returns-then-not-is_whole : goal.returns-then-not-is_whole
returns-then-not-is_whole c = head-not-whole _ (sym c.is_whole.ensures ∙ c.if-not-is_whole.true)

pub bounds-table-0 : goal.bounds-table-0
bounds-table-0 c = let h = head_in _ (sym c.is_whole.ensures ∙ c.if-not-is_whole.false) in search rules

pub returns-then-table-ne16 : goal.returns-then-table-ne16
returns-then-table-ne16 c = other-head _ (sym c.is_whole.ensures ∙ c.if-not-is_whole.false) c.if-table-ne16.true

pub value_at-v-requires : goal.value_at-v-requires
value_at-v-requires c = (T_true _).1 (sym c.is_whole.ensures ∙ c.if-not-is_whole.false)

pub returns-then-v-ne3 : goal.returns-then-v-ne3
returns-then-v-ne3 c =
    other-size _ (sym c.is_whole.ensures ∙ c.if-not-is_whole.false)
    c.if-table-ne16.false _ c.value_at-v.ensures c.if-v-ne3.true

pub bounds-table-3 : goal.bounds-table-3
bounds-table-3 c =
    edition-in _ (sym c.is_whole.ensures
    ∙ c.if-not-is_whole.false) c.if-table-ne16.false _ c.value_at-v.ensures
    c.if-v-ne3.false

pub returns : goal.returns
returns c =
    edition-by _ (sym c.is_whole.ensures
    ∙ c.if-not-is_whole.false) c.if-table-ne16.false _ c.value_at-v.ensures
    c.if-v-ne3.false
