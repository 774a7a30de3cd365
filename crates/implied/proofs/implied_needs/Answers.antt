-- `implied::implied_needs` meets its contract. Assumes nothing.
use Rattle.std.proofs.Common.{ℕ, refl, arith, rules}
use Rattle.std.proofs.lemmas.List.{length-replicate}
use Rattle.std.proofs.lemmas.Result.{err_from_is_err_and}
use Rattle.laws.specs.Lists.{zeros-at}
use Rattle.implied.specs.Answer.{no_room, file-refused, FileRead, of-needs, NoCircle, BeyondFilled, circle, order-of, rows-there, rows_fit, all_listed}
use Rattle.implied.proofs.implied_needs.Goals as goal
use Rattle.implied.proofs.implied_needs.Goals.{In_ok-counts, Else-not-peel, After-add_rows, at-Else-not-peel, at-After-add_rows}

-- ---- what is known on the way

-- the file is read
is_read : (c : In_ok-counts) → let r = c.read_file in FileRead c.args.file.now c.args.list.now c.in_ok-counts.counts r.new.offsets r.new.rows
is_read c = record {
  room = omega arith;
  bytes = λ i. search rules;
  reads = c.in_ok-counts.ensures.0;
  rows-room = omega (arith, c.in_ok-counts.ensures.1, length-replicate {A = ℕ} 22400 0);
}

-- there is no circle
no-circle : (c : Else-not-peel) → NoCircle (is_read (at-Else-not-peel c).In_ok-counts) c.peel.new.order
no-circle c = record {
  ok = c.peel.result;
  releases = c.peel.new.release;
  peeled = c.peel.ensures;
  free = c.if-not-peel.false;
}

-- the rows of the jobs beyond each are filled
filled : (c : After-add_rows) → BeyondFilled (is_read (at-After-add_rows c).In_ok-counts) c.add_rows.new.beyond
filled c = record {
  beyond-are = c.add_rows.ensures.0;
  beyond-room = omega (arith, c.add_rows.ensures.1, length-replicate {A = ℕ} 22400 0);
}

-- ---- the needs

pub returns-then-list-lt-PAIR_ENTRIES : goal.returns-then-list-lt-PAIR_ENTRIES
returns-then-list-lt-PAIR_ENTRIES c = no_room c.args.file.now c.args.list.now (omega arith)

pub returns-in_err-counts : goal.returns-in_err-counts
returns-in_err-counts c =
    let p = err_from_is_err_and c.from_residual.result c.from_residual.ensures.1 in
    rw (p.1, p.2) (file-refused c.args.file.now c.args.list.now (omega arith) _ _ _ c.in_err-counts.ensures.0)

pub peel-requires : goal.peel-requires
peel-requires c = (of-needs (is_read (goal.at.peel-requires c).In_ok-counts), length-replicate {A = ℕ} 400 0, refl)

pub returns-then-not-peel : goal.returns-then-not-peel
returns-then-not-peel c = circle (is_read (goal.at.returns-then-not-peel c).In_ok-counts) c.peel.ensures c.if-not-peel.true

pub add_rows-requires : goal.add_rows-requires
add_rows-requires c =
    let w = order-of (is_read (goal.at.add_rows-requires c).In_ok-counts) (no-circle (goal.at.add_rows-requires c).Else-not-peel) in
    (w, omega (arith, w.of-needs.jobs-few, length-replicate {A = ℕ} 22400 0), zeros-at 22400)

pub put_rows-entries-requires : goal.put_rows-entries-requires
put_rows-entries-requires c =
    let d = (goal.at.put_rows-entries-requires c).After-add_rows in
    let r = is_read (goal.at.put_rows-entries-requires c).In_ok-counts in
    let free = no-circle (goal.at.put_rows-entries-requires c).Else-not-peel in
    (rows-there r free (filled d), rows_fit r free (filled d))

pub returns : goal.returns
returns c =
    let p = c.put_rows-entries in
    let d = (goal.at.returns c).After-add_rows in
    let r = is_read (goal.at.returns c).In_ok-counts in
    rw (p.ensures.size, p.ensures.entries) (all_listed r (no-circle (goal.at.returns c).Else-not-peel) (filled d))
