-- `slotboards::inherit` meets its contract. Assumes nothing.
use Rattle.std.proofs.Common.{◌≡◌, sym, ap, ◌∙◌, false, ◌≤◌, ◌<◌, arith, rules}
use Rattle.jobset.specs.Sets.{is_empty, lowest}
use Rattle.places.specs.Slot.{near_at}
use Rattle.layout.specs.Layout.{tables_in}
use Rattle.slotboards.specs.Turns.{inherit-none, inherit-some, giver-in}
use Rattle.slotboards.specs.Placing.{filling, takes, giver_at}
use Rattle.slotboards.proofs.Firsts.{first-lowest, none-empty}
use Rattle.slotboards.proofs.inherit.Goals as goal
use Rattle.slotboards.proofs.inherit.Goals.{In-Some}

-- the giver is the lowest
lowest-near : (c : In-Some) → (c.in-Some.giver ≡ lowest c.near_at-near.result) × (is_empty c.near_at-near.result ≡ false)
lowest-near c = first-lowest c.near_at-near.result c.in-Some.giver _ (search rules) c.in-Some.ensures

some_near : (c : In-Some) → let a = c.args in
    is_empty (near_at (tables_in a.tables.now) a.slot a.last a.p) ≡ false
some_near c = ap is_empty (sym c.near_at-near.ensures) ∙ (lowest-near c).1

giver : (c : In-Some) → let a = c.args in
    (1 ≤ a.slot) × (c.in-Some.giver < 8) × (giver_at (tables_in a.tables.now) a.slot a.last a.p < 400)
giver c =
    let a = c.args in
    let w = giver-in a.tables.now a.slot a.last a.p c.requires.3 (some_near c) in
    (w.0, rw ((lowest-near c).0, c.near_at-near.ensures) w.1, w.2)

pub returns-in_default : goal.returns-in_default
returns-in_default c =
    let a = c.args in
    let e = ap is_empty (sym c.near_at-near.ensures) ∙ none-empty c.near_at-near.result (search rules) c.in_default.ensures in
    let w = inherit-none (tables_in a.tables.now) a.slot a.last a.p (filling a.z.free a.boards.now) a.z.others e in
    (sym w.0, c.with.ensures ∙ sym w.1)

pub overflow_sub-slot : goal.overflow_sub-slot
overflow_sub-slot c = (giver (goal.at.overflow_sub-slot c).In-Some).0

pub job_at-requires : goal.job_at-requires
job_at-requires c =
    let w = giver (goal.at.job_at-requires c).In-Some in
    (omega (arith, c.requires.0), w.1)

pub bounds-boards-job_at : goal.bounds-boards-job_at
unfolding giver_at
bounds-boards-job_at c =
    let g = (goal.at.bounds-boards-job_at c).In-Some in
    rw (c.job_at.ensures, (lowest-near g).0, c.near_at-near.ensures) (giver g).2

pub without-requires : goal.without-requires
without-requires c = rw c.from.ensures (c.requires.4 _)

pub returns : goal.returns
unfolding takes giver_at
returns c =
    let a = c.args in
    let A = tables_in a.tables.now in
    let g = (goal.at.returns c).In-Some in
    let w = inherit-some A a.slot a.last a.p (filling a.z.free a.boards.now) a.z.others (some_near g) in
    let e = c.job_at.ensures in
    let f = (lowest-near g).0 in
    let h = c.near_at-near.ensures in
    (rw w.0 (simp (c.without.ensures, c.from.ensures, c.job_at-2.ensures, e, f, h)), sym w.1)
