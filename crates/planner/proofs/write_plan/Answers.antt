-- `planner::write_plan` meets its contract. Assumes nothing.
use borrow.Author.Rules.{rules}
use mathlib.Core.Path.{refl}
use Rattle.slotboards.specs.Placing.{blank}
use Rattle.planner.specs.Tabled.{job-fields, slots-few, able, places-in, count-few, table-written}
use Rattle.planner.proofs.write_plan.Goals as goal

pub starts_of-requires : goal.starts_of-requires
starts_of-requires c = let p = c.requires.1 in (slots-few p, p.found.path-len, places-in p)

pub place-count-requires : goal.place-count-requires
unfolding blank
place-count-requires c = let p = c.requires.1 in (record { needs = p.jobs.file.needs; starts = _; able = able p }, refl)

pub overflow_cast-slots : goal.overflow_cast-slots
overflow_cast-slots c = let l = slots-few c.requires.1 in search rules

pub overflow_cast-count : goal.overflow_cast-count
overflow_cast-count c =
    let l = count-few c.requires.1 _ c.starts_of.ensures _ _
    c.place-count.ensures in search rules

pub write_table-requires : goal.write_table-requires
write_table-requires c = let p = c.requires in (p.1.jobs.held.few, p.0, job-fields p.1.jobs)

pub returns : goal.returns
returns c =
    let w = c.write_table.ensures in
    table-written c.requires.1 _
    c.starts_of.ensures _ _
    c.place-count.ensures _ _ _ w.size w.bytes
