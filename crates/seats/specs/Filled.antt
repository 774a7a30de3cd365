-- Tables of some slots with all jobs in them: what they show, how they are carried on, and those of a plan of so many slots. Assumes nothing.
use Rattle.std.specs.Prelude.{◌≡◌, ◌↔◌, set}
use Rattle.std.proofs.Common.{sym, ap, ◌∙◌, inr, ⊎_elim, arith, get_or-set_other}
use mathlib.Core.List.{List, Memᴰ}
use Prim.Native.Nat.{ℕ, suc, ◌+◌, ◌-◌, ◌*◌, ◌≤◌, ◌<◌}
use Rattle.std.proofs.Math.Dec.{eqb}
use Rattle.std.proofs.Math.Seq.{get_or-set_same}
use Rattle.rules.specs.Sizes.{max_limit, max_width, max_jobs}
use Rattle.rules.specs.Basics.{at, range}
use Rattle.rules.specs.Needs.{Gives}
use Rattle.laws.specs.Tests.{T-eqb}
use Rattle.laws.specs.Counting.{range-below}
use Rattle.jobset.specs.Sets.{set_at}
use Rattle.layout.specs.Layout.{held_at, ends_at, due_at, marks_at, slots_at, cap_at, three_at, tables_in, marks_in, prev_at, marks_room}
use Rattle.places.specs.Seats.{seats_of}
use Rattle.places.specs.Windows.{Windows, holds_slot, held, held_before, in_held, in-held-before, Room, apart-hold, Leads, giver-released}
use Rattle.places.specs.Tables.{Due, Shows, ShowsDue}
use Rattle.places.specs.Building.{gathered, due-shows}
use Rattle.places.specs.Assign.{entering-is, seats-same}
use Rattle.places.specs.Memo.{sized_rows}
use Rattle.seats.specs.Gather.{seats-ext, seats-gather}
use Rattle.seats.specs.Order.{order_of, place_of, HasPlaces, seats_by}
use Rattle.seats.specs.Bytes.{same_set}
use Rattle.seats.specs.Words.{Small, small-set}
use Rattle.seats.specs.Carry.{carried, carried-is}
use Rattle.seats.specs.Rows.{Holds, T-holds, ends_with, T-ends, gives_to, T-gives, Rows, bytes-few, rows-carry, rows-kept}
use Rattle.seats.specs.Due.{due_sets, DueSets, due-sets}

-- the tables of the first s slots, all jobs having entered; no job with a window enters later
pub record Filled (W : Windows) (s : ℕ) (words : List ℕ) : Type 0 where
  pub rows : Rows W s (order_of W) words
  pub entered : (i : ℕ) → i < W.n → W.r i < W.d i → W.r i < s

in_order : (W : Windows) (i : ℕ) → Memᴰ i (order_of W) ↔ (i < W.n)
in_order W = (entering-is W).all

-- ---- what they show

-- each job with a window has a place
pub filled-places : {W : Windows} {s : ℕ} {words : List ℕ} → Filled W s words → HasPlaces W
filled-places {W} F i l o = F.rows.low i ((in_order W i).1 l) o

pub filled-shows : {W : Windows} {s : ℕ} {words : List ℕ} → Leads W → (f : HasPlaces W) → s ≤ max_limit → Filled W s words
    → Shows W (seats_by W f) s (tables_in words)
unfolding tables_in
filled-shows {W} {s} {words} D f few F = record {
  held-is = λ t h. gathered π (held W t) (set_at words (held_at + t)) (λ i. Unit {0}) (λ i. (i < W.n) × Holds W t i) ((seats_by W f).apart t)
      (λ i q. ((in_held W t i).1 (q.0, q.1.0, q.1.1), tt)) (λ i m u. let w = (in_held W t i).0 m in (w.0, (w.1, w.2)))
      (rw (F.rows.held-is t h) (seats-gather π (holds_slot W t) (order_of W) (λ i. (i < W.n) × Holds W t i) (λ i m y. ((in_order W i).0 m, (T-holds W t i).0 y))
      (λ i q. ((in_order W i).1 q.0, (T-holds W t i).1 q.1))));
  ends_is = λ t h. gathered π (held_before W t) (set_at words (ends_at + t)) (λ i. W.d i ≡ t) (λ i. (i < W.n) × (W.d i ≡ t) × (W.r i < W.d i))
      (apart-hold W (seats_by W f) t)
      (λ i q. ((in-held-before W t i).1 (q.0, omega (arith, q.1, q.2), omega (arith, q.1)), q.1))
      (λ i m e. let w = (in-held-before W t i).0 m in (w.0, e, omega (arith, w.1)))
      (rw (F.rows.ends_is t (omega arith)) (seats-gather π (ends_with W t) (order_of W) (λ i. (i < W.n) × (W.d i ≡ t) × (W.r i < W.d i))
      (λ i m y. let w = (T-ends W t i).0 y in ((in_order W i).0 m, w.0, w.1)) (λ i q. ((in_order W i).1 q.0, (T-ends W t i).1 (q.1, q.2)))));
  prev-is = λ t i h m. let w = (in_held W t i).0 m in
      gathered π (held_before W t) (set_at words (prev_of t i)) (λ g. Gives W.needs g i) (λ g. Gives W.needs g i
      × (t ≤ W.d g)) (apart-hold W (seats_by W f) t)
      (λ g q. ((in-held-before W t g).1 ((D.needs-in g i q.0).0, giver-released W D t i m g q.0, q.1), q.0)) (λ g k a. (a, ((in-held-before W t g).0 k).2))
      (rw (F.rows.prev-is t i h ((in_order W i).1 w.0) (w.1, w.2)) (seats-gather π (gives_to W i t) (order_of W) (λ g. Gives W.needs g i × (t ≤ W.d g))
      (λ g k y. (T-gives W i t g).0 y) (λ g q. ((in_order W g).1 (D.needs-in g i q.0).0, (T-gives W i t g).1 q))));
  who-is = λ t i h m. let w = (in_held W t i).0 m in F.rows.who-is t i h ((in_order W i).1 w.0) (w.1, w.2);
}
  where
    π : ℕ → ℕ
    π = place_of W

    prev_of : ℕ → ℕ → ℕ
    prev_of t i = prev_at + max_width * t + place_of W i

-- the rows of marks begin where the tables say
pub filled-marks : {W : Windows} {s : ℕ} {words : List ℕ} → Filled W s words → (t : ℕ) → t ≤ s → marks_in words t ≡ sized_rows (tables_in words) t
unfolding marks_in sized_rows
filled-marks F t h = ap (λ (x : ℕ). 8 * x) (F.rows.marks t h)

pub filled-mark : {W : Windows} {s : ℕ} {words : List ℕ} → Filled W s words → s ≤ max_limit → at words (marks_at + s) ≤ marks_room
filled-mark {W} {s} {words} F h = omega (arith, F.rows.marks s (omega arith), bytes-few (tables_in words) s)

-- ---- one slot more

pub filled-carry : {W : Windows} {s : ℕ} {words : List ℕ} → Leads W → (b : ℕ) → s ≡ suc b → s < max_limit → Filled W s words
    → Filled W (suc s) (carried words b s)
filled-carry {W} {s} {words} D b next below F = record {
  rows = rows-carry W D b s (order_of W) words (carried words b s) next below (λ j m. (in_order W j).0 m) (λ j m o. F.entered j ((in_order W j).0 m) o)
      (carried-is W.n words b s next below F.rows.small) F.rows;
  entered = λ i l o. omega (arith, F.entered i l o);
}

-- ---- a number behind the tables, before the base-three numbers

pub filled-beyond : {W : Windows} {s : ℕ} {words : List ℕ} (k v : ℕ) → slots_at ≤ k → k < three_at → s ≤ max_limit → Filled W s words
    → Filled W s (set words k v)
filled-beyond {W} {s} {words} k v h b few F = record {
  rows = rows-kept W s (order_of W) words (set words k v) few
      (small-set W.n words k v F.rows.small b (λ l. absurd (omega arith)) (λ _ l. absurd (omega arith)) (λ _ l. absurd (omega arith)))
      (λ j n l. get_or-set_other words k j v 0 (λ e. omega arith)) F.rows;
  entered = F.entered;
}

-- ---- the tables of a plan of so many slots

-- what is asked: tables of `filled` slots, room for each job in `slots`, and its place and tail in the arrays
pub record Fitting (W : Windows) (filled slots jobs : ℕ) (words places tail : List ℕ) : Type 0 where
  pub leads : Leads W
  pub count : W.n ≡ jobs
  pub jobs-fit : jobs ≤ max_jobs
  pub rows : Filled W filled words
  pub some : 1 ≤ filled
  pub more : filled ≤ slots
  pub few : slots ≤ max_limit
  pub room : Room W slots
  pub in-time : (i : ℕ) → i < jobs → slots ≤ W.d i + W.θ i
  pub places-are : (i : ℕ) → i < jobs → at places i ≡ place_of W i
  pub tails-are : (i : ℕ) → i < jobs → at tail i ≡ W.θ i

-- what comes of it
pub record Fitted (W : Windows) (slots : ℕ) (words after : List ℕ) : Type 0 where
  pub rows : Filled W slots after
  pub shows-due : (f : HasPlaces W) → ShowsDue W (seats_by W f) slots (tables_in after)
  pub slots_at_lem : at after slots_at ≡ slots
  pub cap-at : at after cap_at ≡ at words cap_at

module _ {W : Windows} {filled slots jobs : ℕ} {words places tail : List ℕ} (Q : Fitting W filled slots jobs words places tail) where
  pub fitting-place : (i : ℕ) → i < jobs → at places i < max_width
  fitting-place i l = omega (
    arith,
    Q.places-are i l,
    filled-places Q.rows i (omega (arith, Q.count))
        (Q.room.holds i (omega (arith, Q.count))),
  )

  pub fitting-tail : (i : ℕ) → i < jobs → at tail i ≤ slots
  fitting-tail i l = omega (arith, Q.tails-are i l, Q.room.behind i (omega (arith, Q.count)))

  -- with the rows of all slots, when each job is due, and how many slots there are
  pub fitted : {full : List ℕ} → Filled W slots full → at full cap_at ≡ at words cap_at → Fitted W slots words
      (set (due_sets slots jobs places tail full) slots_at slots)
  unfolding tables_in
  fitted {full} F cap = record {
    rows = record {
      rows = rows-kept W slots (order_of W) full after Q.few small
          (λ k n l. past k (λ e. omega arith) ∙ dues.other k (λ t h e. n (omega (arith, Q.few)) (omega (arith, Q.few)))) F.rows;
      entered = F.entered;
    };
    shows-due = λ f. due-shows W (seats_by W f) slots (tables_in after) Q.room (λ t h. rw (same_set (past (due_at + t) (λ e. omega (arith, Q.few))) ∙ due t h)
        (seats-gather (place_of W) (λ i. eqb (slots - W.θ i) t) (range W.n 0) (λ i. (i < W.n) × Due W slots t i)
        (λ i m y. to t i ((range-below W.n i).0 m) ((T-eqb (slots - W.θ i) t).0 y))
        (λ i q. ((range-below W.n i).1 q.0, (T-eqb (slots - W.θ i) t).1 (from t i q.0 q.1)))));
    slots_at_lem = get_or-set_same sets slots_at slots 0 (omega (arith, dues.small.len));
    cap-at = past cap_at (λ e. omega arith) ∙ dues.other cap_at (λ t h e. omega (arith, Q.few)) ∙ cap;
  }
    where
      sets : List ℕ
      sets = due_sets slots jobs places tail full

      after : List ℕ
      after = set sets slots_at slots

      dues : DueSets W.n slots jobs places tail full sets
      dues = due-sets W.n slots jobs places tail full Q.few fitting-place F.rows.small

      small : Small W.n after
      small = small-set W.n sets slots_at slots dues.small (omega arith) (λ h. absurd (omega arith)) (λ h l. absurd (omega arith))
          (λ h l. absurd (omega arith))

      past : (k : ℕ) → ¬ (k ≡ slots_at) → at after k ≡ at sets k
      past k = get_or-set_other sets slots_at k slots 0

      in-n : (i : ℕ) → Memᴰ i (range jobs 0) → i < jobs
      in-n i m = (range-below jobs i).0 m

      -- by places and tails of the windows
      due : (t : ℕ) → t ≤ slots → set_at sets (due_at + t) ≡ seats_of (place_of W) (λ i. eqb (slots - W.θ i) t) (range W.n 0)
      due t h = dues.due t h ∙ seats-same (at places) (place_of W) (λ i. eqb (slots - at tail i) t) (range jobs 0) (λ i m. Q.places-are i (in-n i m))
          ∙ seats-ext (place_of W) (λ i. eqb (slots - at tail i) t) (λ i. eqb (slots - W.θ i) t) (range jobs 0) (range jobs 0)
          (λ i m y. (m, rw (Q.tails-are i (in-n i m)) at y)) (λ i m y. (m, rw (Q.tails-are i (in-n i m)) y))
          ∙ ap (λ (n : ℕ). seats_of (place_of W) (λ i. eqb (slots - W.θ i) t) (range n 0)) (sym Q.count)

      to : (t i : ℕ) → i < W.n → slots - W.θ i ≡ t → (i < W.n) × Due W slots t i
      to t i l e = let b = Q.room.behind i l in let c = Q.in-time i (omega (arith, Q.count)) in (l, (inr (omega arith), omega arith, omega arith))

      from : (t i : ℕ) → i < W.n → Due W slots t i → slots - W.θ i ≡ t
      from t i l q = let c = Q.in-time i (omega (arith, Q.count)) in ⊎_elim (λ e. omega (arith, q.2)) (λ e. omega arith) q.0
