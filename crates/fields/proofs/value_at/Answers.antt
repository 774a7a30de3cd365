-- `fields::value_at` meets its contract. Assumes nothing.
use Rattle.fields.specs.Fields.{head_in, value-ends, value-part}
use mathlib.Core.Path.{◌∙◌}
use borrow.Author.Rules.{rules}
use Rattle.fields.proofs.value_at.Goals as goal

pub overflow_add-start : goal.overflow_add-start
overflow_add-start c = let h = head_in _ _ c.requires in search rules

pub overflow_add-offset : goal.overflow_add-offset
overflow_add-offset c = let h = head_in _ _ c.requires in search rules

pub word_at-requires : goal.word_at-requires
word_at-requires c = let h = head_in _ _ c.requires in search rules

pub overflow_add-end : goal.overflow_add-end
overflow_add-end c = let h = value-ends _ _ _ (c.from.ensures ∙ c.word_at.ensures) c.requires in search rules

pub slice_bounds-result-end : goal.slice_bounds-result-end
slice_bounds-result-end c = let h = value-ends _ _ _ (c.from.ensures ∙ c.word_at.ensures) c.requires in search rules

pub returns : goal.returns
returns c = value-part _ _ _ (c.from.ensures ∙ c.word_at.ensures)
