-- `jobfile::read_file` meets its contract. Assumes nothing.
use mathlib.Core.Path.{refl, sym}
use Rattle.std.specs.Prelude.{Ok, Err}
use Rattle.std.proofs.lemmas.Result.{err_from_is_err_and}
use Rattle.jobfile.specs.Whole.{too_long, all_asked}
use Rattle.jobfile.specs.FieldByField.{start-held}
use Rattle.jobfile.proofs.read_file.Goals as goal

pub returns-then-file-gt-MAX_FILE : goal.returns-then-file-gt-MAX_FILE
returns-then-file-gt-MAX_FILE c = (too_long _ _ _ c.if-file-gt-MAX_FILE.true, refl)

pub read_fields-requires : goal.read_fields-requires
read_fields-requires c = let p = c.requires in (c.if-file-gt-MAX_FILE.false, p.1, start-held _ _ _ p.0 p.1)

pub returns-in_err-c : goal.returns-in_err-c
returns-in_err-c c =
    let p = err_from_is_err_and c.from_residual.result c.from_residual.ensures.1 in
    let w = c.in_err-c.ensures in
    rw (p.1, p.2) (all_asked _ c.if-file-gt-MAX_FILE.false _ _ (Err _) w.0, w.1)

pub returns-in_err-complete : goal.returns-in_err-complete
returns-in_err-complete c =
    let p = err_from_is_err_and c.from_residual-in_err-complete.result c.from_residual-in_err-complete.ensures.1 in
    let w = c.in_ok-c.ensures in
    rw (p.1, p.2) (rw (sym c.in_err-complete.ensures) at (all_asked _ c.if-file-gt-MAX_FILE.false _ _ (Ok _) w.0), w.1)

pub returns : goal.returns
returns c = let w = c.in_ok-c.ensures in (rw (sym c.in_ok-complete.ensures) at (all_asked _ c.if-file-gt-MAX_FILE.false _ _ (Ok _) w.0), w.1)
