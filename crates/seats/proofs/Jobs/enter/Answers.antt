-- `seats::Jobs::enter` meets its contract. The jobs of the slot that are left are linked from `link` on, and all before them have entered; the
-- facts of a turn are those of `NextJob`. Assumes nothing.
use Rattle.std.proofs.Common.{◌≡◌, refl, sym, ap, ◌∙◌, ◌+◌, ◌-◌, ◌<◌, arith}
use Rattle.rules.specs.Basics.{at}
use Rattle.jobset.specs.Sets.{set_at, minus, members}
use Rattle.jobset.specs.declared.Set.{Set}
use Rattle.needrows.specs.Takers.{takers-below}
use Rattle.layout.specs.Layout.{held_at}
use Rattle.places.specs.Assign.{Lowest, lowest-only}
use Rattle.places.specs.Windows.{Windows}
use Rattle.seats.specs.Bytes.{every_place, free_in}
use Rattle.seats.specs.Enter.{left_behind, NextJob, next_job, next-job-in, next-job-less, next-job-lowest, next-job-full, next-job-skip}
use Rattle.seats.specs.Enter.{next-job-seat}
use Rattle.seats.specs.Order.{place_of}
use Rattle.seats.specs.Slots.{Enters, mid-end}
use Rattle.seats.proofs.Free.{first-free, no-free}
use Rattle.seats.proofs.Jobs.enter.Goals as goal
use Rattle.seats.proofs.Jobs.enter.Goals.{After-deadline-last, After-minus-free, In_ok-place, In-Some}
use Rattle.seats.proofs.Jobs.enter.Goals.{at-After-deadline-last, at-After-minus-free, at-In_ok-place}

-- ---- the ways back: to the turn, to the deadline of its job, to the places that the slot leaves

abbrev turn-of : After-deadline-last → In-Some
turn-of c = (at-After-deadline-last c).In-Some

abbrev deadline-of : After-minus-free → After-deadline-last
deadline-of c = (at-After-minus-free c).After-deadline-last

abbrev free_of : In_ok-place → After-minus-free
free_of c = (at-In_ok-place c).After-minus-free

-- ---- what is known in a turn

-- the places of the slot
abbrev held : In-Some → Set
held c = set_at c.loop-job.tables (held_at + c.args.slot)

-- windows that the function is called for
abbrev Asks : In-Some → Windows → Type 0
Asks c W = let a = c.args in Enters W a.self.rows.now a.self.release.now a.self.tail.now a.next.now a.self.count a.self.limit
    a.first a.slot
    a.tables.now a.places.now a.givers.now

-- the job comes next, for all windows that the function is called for ..
comes : (c : In-Some) (W : Windows) → Asks c W
    → NextJob W c.args.next.now c.args.slot c.in-Some.job c.loop-job.tables
    c.loop-job.places c.loop-job.givers
comes c W E =
    let l = c.in-Some.ensures in
    let e : c.loop-job.link - 1 ≡ c.in-Some.job = omega (arith, l) in
    rw e at (next_job (c.loop-job.invariant W E) (λ z. omega (arith, l)))

-- .. and so for some
some : (c : In-Some) → (W : Windows) × Asks c W
some c = c.requires

-- the job is one of the jobs, and the slot one of the slots
in-jobs : (c : In-Some) (W : Windows) → Asks c W → c.in-Some.job < c.args.self.count
in-jobs c W E = omega (arith, next-job-in (comes c W E), E.given.count)

in_array : (c : In-Some) → c.in-Some.job < 400
in_array c = let p = some c in omega (arith, in-jobs c p.0 p.1, p.1.given.jobs-fit)

slot-fits : (c : In-Some) → c.args.slot < 64
slot-fits c = let p = some c in omega (arith, p.1.below, p.1.given.limit-fits)

-- the numbers rise along the links
less : (c : In-Some) → left_behind (at c.args.next.now c.in-Some.job) < left_behind c.loop-job.link
less c =
    let p = some c in
    let f : c.in-Some.job + 1 ≡ c.loop-job.link = omega (arith, c.in-Some.ensures) in
    rw f at (next-job-less (comes c p.0 p.1) (omega (arith, p.1.given.count, p.1.given.jobs-fit)))

-- its deadline, which is behind the slot where it takes a place
last-is : (c : After-deadline-last) (W : Windows) → Asks (turn-of c) W → c.deadline-last.result ≡ W.d c.in-Some.job
last-is c W E = c.deadline-last.ensures ∙ sym (E.given.deadlines c.in-Some.job (in-jobs (turn-of c) W E))

in_window : (c : After-minus-free) (W : Windows) → Asks (turn-of (deadline-of c)) W → c.args.slot < W.d c.in-Some.job
in_window c W E = omega (arith, c.if-slot-last.true, last-is (deadline-of c) W E)

-- the places that the slot leaves
free-is : (c : After-minus-free) → c.minus-free.result ≡ free_in (held (turn-of (deadline-of c)))
free-is c = c.minus-free.ensures ∙ ap (minus every_place) c.set_at.ensures

-- the place is the lowest that the slot leaves ..
chosen : (c : In_ok-place) → Lowest (held (turn-of (deadline-of (free_of c)))) c.in_ok-place.place × (c.in_ok-place.place < 8)
chosen c =
    let S = held (turn-of (deadline-of (free_of c))) in
    first-free S c.in_ok-place.place _ (ap members (sym (free-is (free_of c))) ∙ c.in_ok-place.ensures)

-- .. and so the job's
place_is : (c : In_ok-place) (W : Windows) → Asks (turn-of (deadline-of (free_of c))) W → c.in_ok-place.place ≡ place_of W c.in-Some.job
place_is c W E =
    let t = turn-of (deadline-of (free_of c)) in
    lowest-only (held t) c.in_ok-place.place (place_of W c.in-Some.job) (chosen c).0 (next-job-lowest (comes t W E) E.enters)

pub offset_bounds-next-job : goal.offset_bounds-next-job
offset_bounds-next-job c = let b = in_array (goal.at.offset_bounds-next-job c).In-Some in omega arith

pub bounds-next-job : goal.bounds-next-job
bounds-next-job c = in_array (goal.at.bounds-next-job c).In-Some

pub deadline-last-requires : goal.deadline-last-requires
deadline-last-requires c = in_array (goal.at.deadline-last-requires c).In-Some

pub returns-in_err-place : goal.returns-in_err-place
returns-in_err-place c =
    let f = (goal.at.returns-in_err-place c).After-minus-free in
    let t = turn-of (deadline-of f) in
    λ W E. rw c.from_residual.ensures
    (next-job-full (comes t W E) E.enters (in_window f W E) (no-free (held t) (ap members (sym (free-is f)) ∙ c.in_err-place.ensures)))

pub overflow_cast-places : goal.overflow_cast-places
overflow_cast-places c = let b = (chosen (goal.at.overflow_cast-places c).In_ok-place).1 in omega arith

pub bounds-places-job : goal.bounds-places-job
bounds-places-job c = in_array (goal.at.bounds-places-job c).In-Some

pub bounds-givers-job : goal.bounds-givers-job
bounds-givers-job c = in_array (goal.at.bounds-givers-job c).In-Some

pub seat-requires : goal.seat-requires
seat-requires c =
    let t = (goal.at.seat-requires c).In-Some in
    let p = some t in (
      slot-fits t,
      in_array t,
      (chosen (goal.at.seat-requires c).In_ok-place).1,
      omega (arith, c.deadline-last.ensures, p.1.given.limit-fits),
      (p.0.n, (comes t p.0 p.1).state.rows.small),
    )

pub give_row-requires : goal.give_row-requires
give_row-requires c =
    let t = (goal.at.give_row-requires c).In-Some in
    let p = some t in
    let a = t.args in
    let g = p.1.given in (
      g.jobs-fit,
      in-jobs t p.0 p.1,
      g.rows_fit,
      takers-below a.self.rows.now a.self.count p.0.needs (omega (arith, g.jobs-fit)) (rw g.count at g.leads.needs-in) g.rows_are t.in-Some.job
          (in-jobs t p.0 p.1),
      (chosen (goal.at.give_row-requires c).In_ok-place).1,
    )

pub loop-job-smaller-then-slot-last : goal.loop-job-smaller-then-slot-last
loop-job-smaller-then-slot-last c = less (goal.at.loop-job-smaller-then-slot-last c).In-Some

pub loop-job-preserved-then-slot-last : goal.loop-job-preserved-then-slot-last
loop-job-preserved-then-slot-last c =
    let o = (goal.at.loop-job-preserved-then-slot-last c).In_ok-place in
    let free = free_of o in
    let d = deadline-of free in
    let t = turn-of d in
    λ W E. rw (c.seat.ensures.0, c.give_row.ensures)
    (next-job-seat (comes t W E) E.given.leads E.given c.in_ok-place.place d.deadline-last.result
    (at t.loop-job.givers c.in-Some.job) E.enters E.below
    (place_is o W E) (chosen o).1 (last-is d W E)
    (in_window free W E) refl c.seat.ensures.1)

pub loop-job-smaller : goal.loop-job-smaller
loop-job-smaller c = less (goal.at.loop-job-smaller c).In-Some

pub loop-job-preserved : goal.loop-job-preserved
loop-job-preserved c =
    let d = (goal.at.loop-job-preserved c).After-deadline-last in
    λ W E. next-job-skip (comes (turn-of d) W E) E.given.leads (omega (arith, c.if-slot-last.false, last-is d W E))

pub returns : goal.returns
returns c = λ W E. mid-end c.in_default.ensures (c.loop-job.invariant W E)
