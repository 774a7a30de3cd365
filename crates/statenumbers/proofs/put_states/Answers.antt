-- `statenumbers::put_states` meets its contract. Assumes nothing.
use mathlib.Core.Path.{◌≡◌, refl}
use mathlib.Core.Bool.{true}
use Prim.Native.Nat.{ℕ, ◌<◌}
use native.Mathlib.Omega.{arith}
use lib.ListN.{length-replicate}
use Rattle.rules.specs.Basics.{at}
use Rattle.rules.specs.Windows.{release, tail}
use Rattle.releases.specs.Ordered.{Peeled}
use Rattle.planner.specs.Planner.{JobsRead}
use Rattle.planner.specs.Asked.{jobs-read, of-needs, order-of}
use Rattle.statenumbers.specs.Answer.{read-again, rows-again, peeled-yes, room_for, narrow, bytes-written}
use Rattle.statenumbers.proofs.put_states.Goals as goal
use Rattle.statenumbers.proofs.put_states.Goals.{After-peel, After-tails, After-unwrap-f, at-After-peel, at-After-tails}

-- from the peeling to the reader, and from the tails to the peeling
abbrev to-reader : After-peel → After-unwrap-f
to-reader c = (at-After-peel c).After-unwrap-f

abbrev to-peel : After-tails → After-peel
to-peel c = (at-After-tails c).After-peel

-- the file is readable again
read : (c : After-unwrap-f) → let r = c.read_file in
    JobsRead c.args.file.now c.unwrap-f.result.jobs c.unwrap-f.result.limit r.new.offsets r.new.rows
read c = jobs-read (rw c.unwrap-f.ensures at c.read_file.ensures.0) (λ i. omega (arith, c.type_inv.file i))

-- its jobs are peeled again, and there is no circle
peeled : (c : After-peel) → let j = read (to-reader c) in
    Peeled c.unwrap-f.result.jobs j.file.needs c.peel.result c.peel.new.order c.peel.new.release
peeled c = let j = read (to-reader c) in c.peel.ensures j.file.needs j.held.needs-in j.held.rows_are

no-circle : (c : After-peel) → c.peel.result ≡ true
no-circle c = peeled-yes c.requires.0 (read (to-reader c)) _ (peeled c).answer

-- so releases and tails are those of the file
releases-are : (c : After-peel) → let j = read (to-reader c) in (i : ℕ) → i < c.unwrap-f.result.jobs
    → at c.peel.new.release i ≡ release c.unwrap-f.result.jobs j.file.needs i
releases-are c = (peeled c).releases-are (no-circle c)

tails-are : (c : After-tails) → let j = read (to-reader (to-peel c)) in (i : ℕ) → i < c.unwrap-f.result.jobs
    → at c.tails.new.tail i ≡ tail c.unwrap-f.result.jobs j.file.needs i
tails-are c = let j = read (to-reader (to-peel c)) in c.tails.ensures j.file.needs j.held.needs-in j.held.rows_are

pub unwrap-f-requires : goal.unwrap-f-requires
unwrap-f-requires c = rw (read-again c.requires.0 c.read_file.ensures.0).1 refl

pub peel-requires : goal.peel-requires
peel-requires c = (of-needs (read (goal.at.peel-requires c).After-unwrap-f), length-replicate {A = ℕ} 400 0, refl)

pub tails-requires : goal.tails-requires
tails-requires c =
    let p = (goal.at.tails-requires c).After-peel in
    (order-of (read (to-reader p)) _ _ _ (peeled p) (no-circle p), length-replicate {A = ℕ} 400 0)

pub unwrap-t-requires : goal.unwrap-t-requires
unwrap-t-requires c =
    let p = to-peel (goal.at.unwrap-t-requires c).After-tails in
    rw (rows-again c.requires.0 (read (to-reader p)) c.read_rows.ensures).1 refl

pub put_numbers-requires : goal.put_numbers-requires
put_numbers-requires c =
    let t = (goal.at.put_numbers-requires c).After-tails in
    let j = read (to-reader (to-peel t)) in
    let d = c.read_rows.ensures in
    let z = c.requires in
    let room = room_for z.0 j d c.unwrap-t.ensures c.args.states.now z.2 in
    (j.held.few, room.0, room.1, narrow z.0 j d c.unwrap-t.ensures _ _ (releases-are (to-peel t)) (tails-are t))

pub returns : goal.returns
returns c =
    let t = (goal.at.returns c).After-tails in
    let j = read (to-reader (to-peel t)) in
    let z = c.requires in
    bytes-written z.0 j c.read_rows.ensures c.unwrap-t.ensures _ _ (releases-are (to-peel t)) (tails-are t) _ _ z.2 c.put_numbers.ensures
