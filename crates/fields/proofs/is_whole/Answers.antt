-- `fields::is_whole` meets its contract. Assumes nothing.
use Rattle.fields.specs.Fields.{head-short, whole_by}
use mathlib.Core.Path.{◌∙◌}
use Rattle.fields.proofs.is_whole.Goals as goal

pub returns-then-left-lt3 : goal.returns-then-left-lt3
returns-then-left-lt3 c = head-short _ _ c.requires c.if-left-lt3.true

pub returns : goal.returns
returns c = whole_by _ _ _ (c.from.ensures ∙ c.word_at.ensures) c.requires c.if-left-lt3.false
