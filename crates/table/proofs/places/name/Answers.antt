-- `table::places::name` meets its contract. Assumes nothing.
use Rattle.std.proofs.Common.{◌≡◌, sym, ap, ◌∙◌, Some}
use Rattle.rules.specs.Fields.{got, part}
use Rattle.rules.specs.Answers.{lookup}
use Rattle.table.specs.Entries.{place_of, part_of}
use Rattle.table.specs.Finding.{name_in}
use Rattle.table.specs.Names.{name-is}
use Rattle.table.proofs.places.name.Goals as goal
use Rattle.table.proofs.places.name.Goals.{In-Ok-Some}

-- the place that was found
found : (c : In-Ok-Some) → place_of c.args.table.now (lookup c.args.table.now c.args.slot c.args.board) ≡ got (Some c.in-Ok-Some.place)
found c = sym (rw c.in-Ok-Some.field-0-is at c.in-Ok-Some.ensures)

pub slice_bounds-result-count : goal.slice_bounds-result-count
slice_bounds-result-count c = (name_in _ _ _ _ (found (goal.at.slice_bounds-result-count c).In-Ok-Some)).0

pub slice_bounds-result-start : goal.slice_bounds-result-start
slice_bounds-result-start c = (name_in _ _ _ _ (found (goal.at.slice_bounds-result-start c).In-Ok-Some)).0

pub slice_bounds-result-end : goal.slice_bounds-result-end
slice_bounds-result-end c = (name_in _ _ _ _ (found (goal.at.slice_bounds-result-end c).In-Ok-Some)).1

pub returns-in-Ok-Some : goal.returns-in-Ok-Some
unfolding part_of part
returns-in-Ok-Some c = ap (part_of _) (sym (found (goal.at.returns-in-Ok-Some c).In-Ok-Some)) ∙ sym (name-is _ _ _)

pub returns-in-Ok-None : goal.returns-in-Ok-None
unfolding part_of
returns-in-Ok-None c = ap (part_of _) (rw c.in-Ok-None.field-0-is at c.in-Ok-None.ensures) ∙ sym (name-is _ _ _)

pub returns-in-Err : goal.returns-in-Err
unfolding part_of
returns-in-Err c = ap (part_of _) c.in-Err.ensures ∙ sym (name-is _ _ _)
