-- `questions::labelled` meets its contract. Assumes nothing.
use Rattle.std.proofs.Common.{◌≡◌, ◌<◌, sym, ap, ap₂, ◌∙◌, length, take, arith, rules}
use Rattle.std.proofs.lemmas.List.{get_or-take, length-take, length-append}
use Rattle.std.proofs.lemmas.Slice.Zip.{zip_turn, zip_end}
use Rattle.rules.specs.Basics.{at}
use Rattle.rules.specs.Fields.{value}
use Rattle.laws.specs.Loops.{all_yes, all-no, all_end, all-failed}
use Rattle.questions.specs.Questions.{labelled_by, labelled_in}
use Rattle.questions.proofs.labelled.Goals as goal
use Rattle.questions.proofs.labelled.Goals.{In-Some, After-labelled_row, at-After-labelled_row}

-- the offsets of this turn are those of the next job
turned : (c : In-Some) →
    let a = c.args in
    let i = length c.loop-job.yielded in
    (i < a.count) × (c.in-Some.job.now ≡ at a.jobs.now i) × (c.in-Some.row.now ≡ at a.rows.now i)
turned c =
    let a = c.args in
    let i = length c.loop-job.yielded in
    let t = zip_turn (take a.count a.jobs.now) (take a.count a.rows.now) c.loop-job.yielded c.into_iter-job-iterator.result c.loop-job.job-iterator
    c.next.new.self
    c.next.result (search rules) (search rules) c.loop-job.yielded_by _ c.in-Some.is c.next.ensures.steps in
    let h : i < a.count = omega (arith, t.0, length-take a.count a.jobs.now) in
    (h, t.2 0 ∙ get_or-take a.count a.jobs.now i 0 h, t.3 0 ∙ get_or-take a.count a.rows.now i 0 h)

-- the answer by their values
told : (c : After-labelled_row) →
    let a = c.args in
    let i = length c.loop-job.yielded in
    c.labelled_row.result ≡ labelled_by (value a.file.now (at a.jobs.now i)) (value a.table.now (at a.rows.now i))
told c =
    let t = turned (at-After-labelled_row c).In-Some in
    c.labelled_row.ensures
    ∙ ap₂ labelled_by (c.value_at-job.ensures ∙ ap (value _) (c.from.ensures ∙ t.1)) (c.value_at-row.ensures ∙ ap (value _) (c.from-in-loop-job.ensures ∙ t.2))

pub returns-then-not-labelled_row : goal.returns-then-not-labelled_row
unfolding labelled_in
returns-then-not-labelled_row c =
    let w = (goal.at.returns-then-not-labelled_row c).After-labelled_row in
    all-failed (all-no c.loop-job.invariant (turned (at-After-labelled_row w).In-Some).0 (sym (told w) ∙ c.if-not-labelled_row.true))

pub loop-job-preserved : goal.loop-job-preserved
loop-job-preserved c =
    let w = (goal.at.loop-job-preserved c).After-labelled_row in
    simp length-append (all_yes c.loop-job.invariant (turned (at-After-labelled_row w).In-Some).0 (sym (told w) ∙ c.if-not-labelled_row.false))

pub returns : goal.returns
unfolding labelled_in
returns c =
    let a = c.args in
    let e = zip_end (take a.count a.jobs.now) (take a.count a.rows.now) c.loop-job.yielded c.into_iter-job-iterator.result c.loop-job.job-iterator
    c.next.new.self
    c.next.result (search rules) (search rules) c.loop-job.yielded_by c.in-None.is c.next.ensures.steps in
    all_end c.loop-job.invariant (omega (arith, e, length-take a.count a.jobs.now, length-take a.count a.rows.now, c.requires.0))
