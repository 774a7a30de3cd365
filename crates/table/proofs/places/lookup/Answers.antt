-- `table::places::lookup` meets its contract. Assumes nothing.
use Rattle.std.proofs.Common.{sym, ap, ◌∙◌}
use Rattle.std.proofs.lemmas.Result.{err_from_is_err_and}
use Rattle.rules.specs.Fields.{got}
use Rattle.table.specs.Entries.{job_of}
use Rattle.table.specs.Finding.{job-found}
use Rattle.table.proofs.places.lookup.Goals as goal

pub returns-in_err-place : goal.returns-in_err-place
unfolding job_of
returns-in_err-place c =
    let p = err_from_is_err_and c.from_residual.result c.from_residual.ensures.1 in
    rw (p.1, p.2) (ap job_of c.in_err-place.ensures ∙ job-found _ _)

pub returns-in-Some : goal.returns-in-Some
unfolding job_of
returns-in-Some c = ap job_of (ap got (sym c.in-Some.is) ∙ c.in_ok-place.ensures) ∙ job-found _ _

pub returns-in-None : goal.returns-in-None
unfolding job_of
returns-in-None c = ap job_of (ap got (sym c.in-None.is) ∙ c.in_ok-place.ensures) ∙ job-found _ _
