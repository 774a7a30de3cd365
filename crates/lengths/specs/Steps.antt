-- One length of the search: the tables that it fits are ready, what it finds in them is the plan of the model, and what that says of the
-- best start list. Assumes nothing.
use Rattle.std.specs.Prelude.{◌≡◌, refl, Bool, true, false, List, [], ◌∷◌, None, Some, ℕ, zero, suc, ◌+◌, ◌-◌, ◌≤◌, ◌<◌, length}
use Rattle.std.proofs.Math.Path.{sym, ap}
use Rattle.std.proofs.Common.{◌∙◌, subst, arith, length-set, get_or-set_same, get_or-set_other}
use mathlib.Core.List.Memᴰ
use Rattle.std.proofs.Math.Option.{some}
use Rattle.rules.specs.Sizes.{max_limit, max_jobs}
use Rattle.rules.specs.Basics.{at}
use Rattle.rules.specs.Boards.{Runs, runsb}
use Rattle.rules.specs.Preference.{best}
use Rattle.jobset.specs.Sets.{empty, is_subset}
use Rattle.jobset.specs.Inclusion.{empty-subset}
use Rattle.bitmap.specs.Marks.{cleared}
use Rattle.dominance.specs.Count.{AtLeast}
use Rattle.places.specs.Seats.{subset-on, on-empty}
use Rattle.places.specs.Windows.{Windows, Seats}
use Rattle.places.specs.Tables.{Shows}
use Rattle.places.specs.Slot.{tries_at}
use Rattle.places.specs.Memo.{Rows, sized_rows, sized_rows_lem, Reached}
use Rattle.places.proofs.Memo.{tries-are-held, cleared-is-find}
use Rattle.layout.specs.Layout.{marks_at, cap_at, tables_in, marks_in, marks_room}
use Rattle.shortest.specs.Given.{Ready}
use Rattle.shortest.specs.Starts.{plan_of, plan-proper}
use Rattle.shortest.specs.SearchIsBest.{no_length, plan-none, plan-slots, plan-best, plan-written}
use Rattle.seats.specs.Order.{HasPlaces, seats_by}
use Rattle.seats.specs.Rows.{bytes-few}
use Rattle.seats.specs.Filled.{Filled, filled-places, filled-shows, filled-marks, Fitting, Fitted}
use Rattle.backtrack.specs.Entries.{slots_in, cap_in}
use Rattle.backtrack.specs.Search.{Searchable, written, explored_in}
use Rattle.lengths.specs.Searching.{Search, list_found, PlanFound, Found}

-- ---- sets written over a path

pub length-written : (sets : List ℕ) (s : ℕ) (path : List ℕ) → length (written s sets path) ≡ length path
unfolding written
length-written [] s path = refl
length-written (x ∷ sets) s path = length-set (written (s + 1) sets path) s x ∙ length-written sets (s + 1) path

written_at : (sets : List ℕ) (s : ℕ) (path : List ℕ) (j : ℕ) → length sets + s ≤ length path → j < length sets → at (written s sets path) (s + j) ≡ at sets j
unfolding written
written_at [] s path j h l = absurd (omega arith)
written_at (x ∷ sets) s path zero h l =
    let e : s + 0 ≡ s = omega arith in
    rw e (get_or-set_same (written (s + 1) sets path) s x 0 (omega (arith, length-written sets (s + 1) path)))
written_at (x ∷ sets) s path (suc j) h l =
    let e : s + 1 + j ≡ s + suc j = omega arith in
    get_or-set_other (written (s + 1) sets path) s (s + suc j) x 0 (λ q. omega arith) ∙ rw e at (written_at sets (s + 1) path j (omega arith) (omega arith))

-- ---- the loop

-- before a length: the tables have `has` slots, and no list is below it
pub record Going (W : Windows) (cap least has next : ℕ) (words path : List ℕ) : Type 0 where
  pub rows : Filled W has words
  pub some : 1 ≤ has
  pub more : has ≤ next
  pub from : least ≤ next
  pub cap-at : at words cap_at ≡ cap
  pub low : AtLeast W.n (Runs W.n W.needs cap) next
  pub path-len : length path ≡ max_limit

module _ (W : Windows) (cap filled least limit jobs : ℕ) (words places tail : List ℕ) (bytes : ℕ) (path : List ℕ)
    (Q : Search W cap filled least limit jobs words places tail bytes path) where
  -- at first
  pub goes : Going W cap least filled least words path
  goes = record { rows = Q.rows; some = Q.some; more = Q.more; from = omega arith; cap-at = Q.cap-at; low = Q.low; path-len = Q.path-len }

  -- where no length is left
  pub ends : (has next : ℕ) (now path' : List ℕ) → Going W cap least has next now path' → limit < next → Found W cap limit None now path'
  ends has next now path' G h = record {
    no-list = λ _. no_length W.n W.needs cap limit Q.limit-pos next h G.low;
    a-plan = λ C e. cc;
  }

  module _ (has C : ℕ) (before path' : List ℕ) (G : Going W cap least has C before path') (in-limit : C ≤ limit) where
    -- what the fitting of the tables asks
    pub fitting : Fitting W has C jobs before places tail
    fitting = record {
      leads = Q.leads;
      count = Q.count;
      jobs-fit = Q.jobs-fit;
      rows = G.rows;
      some = G.some;
      more = G.more;
      few = omega (arith, Q.few);
      room = Q.room C G.from in-limit;
      in-time = λ i l. omega (arith, Q.in-time i l);
      places-are = λ i l. Q.places-are i l ((Q.room C G.from in-limit).holds i (omega (arith, Q.count)));
      tails-are = Q.tails-are;
    }

    module _ (after : List ℕ) (F : Fitted W C before after) where
      abbrev has-places : HasPlaces W
      has-places = filled-places F.rows

      abbrev Z : Seats W
      Z = seats_by W has-places

      shows : Shows W Z C (tables_in after)
      shows = filled-shows Q.leads has-places (omega (arith, Q.few)) F.rows

      ready : Ready W Z C (tables_in after)
      ready = record { room = Q.room C G.from in-limit; shows = shows; due = F.shows-due has-places }

      cap-is : cap_in after ≡ cap
      cap-is = F.cap-at ∙ G.cap-at

      -- the rows of marks
      marks : (t : ℕ) → t ≤ C → marks_in after t ≡ sized_rows (tables_in after) t
      marks = filled-marks F.rows

      mark-rows : Rows (tables_in after) (marks_in after) C
      mark-rows =
          let r = sized_rows_lem W Z C (tables_in after) shows C (omega arith) in
          record { stay = r.stay; eight = r.eight; row = λ s h. omega (arith, r.row s h, marks s (omega arith), marks (suc s) h) }

      -- the bytes of all rows
      pub bitmap-bytes : at after (marks_at + C) ≤ marks_room
      unfolding marks_in sized_rows
      bitmap-bytes = omega (arith, marks C (omega arith), bytes-few (tables_in after) C, Q.few)

      -- so they can be searched
      pub searchable : (room : ℕ) → marks_room ≤ room → Searchable after room
      unfolding marks_in
      searchable room h = record {
        few = omega (arith, Q.few, F.slots_at_lem);
        rows = rw F.slots_at_lem mark-rows;
        room = rw F.slots_at_lem (omega (arith, bitmap-bytes));
        threes = F.rows.rows.small.threes;
        apart = λ s p q b m k e.
            let l : s < C = omega (arith, F.slots_at_lem) in
            let a = (shows.held-is s l).bound p m in
            let g = (shows.held-is s l).bound q k in
            let c : (tables_in after).who s p ≡ a.0 = ap ((tables_in after).who s) (sym a.2) ∙ shows.who-is s a.0 l a.1 in
            let d : (tables_in after).who s q ≡ g.0 = ap ((tables_in after).who s) (sym g.2) ∙ shows.who-is s g.0 l g.1 in
            sym a.2 ∙ ap Z.place (sym c ∙ e ∙ d) ∙ g.2;
      }

      -- from the first slot on, where nothing is due
      pub reached : Reached (tables_in after) (slots_in after) (slots_in after - 0) 0 empty empty
      reached = record { total = omega arith; of-slot = empty-subset empty; included = empty-subset empty }

      pub none-due : is_subset ((tables_in after).due 0) empty ≡ true
      none-due = (subset-on ((F.shows-due has-places).due-is 0 (omega arith)) (on-empty Z.place [] (λ i. ⊥) (λ i m p. p))).1
          (λ i m. absurd (Memᴰ.not-nil m))

      -- the search finds the plan of the model, whatever the bitmap held
      module _ (dead : List ℕ) (h : marks_room ≤ length dead) where
        explored-is : (explored_in after 0 empty empty (cleared (at after (marks_at + C)) dead)).plan ≡ plan_of (tables_in after) cap C
        unfolding explored_in marks_in
        explored-is =
            let e : slots_in after - 0 ≡ C = omega (arith, F.slots_at_lem) in
            rw (e, cap-is)
            (cleared-is-find (tables_in after) (marks_in after) (tries_at (tables_in after) cap) C mark-rows (tries-are-held (tables_in after) cap C)
            (at after (marks_at + C)) dead (omega (arith, bitmap-bytes)) (omega arith))

        -- no plan: no list is so short
        pub not_found : (b : Bool) → b ≡ (explored_in after 0 empty empty (cleared (at after (marks_at + C)) dead)).plan.ok → b ≡ false → (path'' : List ℕ)
            → length path'' ≡ max_limit
            → Going W cap least C (suc C) after path''
        not_found b e n path'' len = record {
          rows = F.rows;
          some = omega (arith, G.some, G.more);
          more = omega arith;
          from = omega (arith, G.from);
          cap-at = cap-is;
          low = plan-none W Z limit Q.leads Q.bounds cap (tables_in after) C in-limit ready G.low (ap (λ p. p.ok) (sym explored-is) ∙ sym e ∙ n);
          path-len = len;
        }

        -- a plan: its list is the best
        pub is_found : (b : Bool) → b ≡ (explored_in after 0 empty empty (cleared (at after (marks_at + C)) dead)).plan.ok → b ≡ true → (path'' : List ℕ)
            → path'' ≡ written 0 (explored_in after 0 empty empty (cleared (at after (marks_at + C)) dead)).plan.sets path'
            → Found W cap limit (Some C) after path''
        is_found b e y path'' p = record {
          no-list = λ z. cc;
          a-plan = λ D z. let same : C ≡ D = cc in subst (λ (k : ℕ). (0 < k) × PlanFound W cap limit k after path'') same (pos, plan);
        }
          where
            ok : (plan_of (tables_in after) cap C).ok ≡ true
            ok = ap (λ q. q.ok) (sym explored-is) ∙ sym e ∙ y

            pos : 0 < C
            pos = omega (arith, G.some, G.more)

            is-best : best W.n (runsb W.n W.needs cap) limit ≡ some (list_found W cap limit C after)
            is-best = plan-best W Z limit Q.leads Q.bounds cap (tables_in after) C in-limit ready G.low pos ok

            full : length (plan_of (tables_in after) cap C).sets ≡ C
            full = (plan-proper W Z C (tables_in after) shows cap).full ok

            each : (s : ℕ) → s < C → at (written 0 (plan_of (tables_in after) cap C).sets path') s ≡ at (plan_of (tables_in after) cap C).sets s
            each s l =
                let z : 0 + s ≡ s = omega arith in
                rw z at (written_at (plan_of (tables_in after) cap C).sets 0 path' s (omega (arith, full, G.path-len, Q.few)) (omega (arith, full)))

            plan : PlanFound W cap limit C after path''
            plan = record {
              has-places = has-places;
              ready = ready;
              in-limit = in-limit;
              path-len = ap length p ∙ length-written _ 0 path' ∙ G.path-len;
              full = full;
              same = λ s l. ap (λ (q : List ℕ). at q s) p ∙ rw (explored-is) (each s l);
              is-best = is-best;
              slots-are = plan-slots W Z limit Q.leads Q.bounds cap (tables_in after) C in-limit ready G.low pos ok;
              starts-are = plan-written W Z limit Q.leads Q.bounds cap (tables_in after) C in-limit ready G.low pos ok max_jobs
                  (omega (arith, Q.count, Q.jobs-fit));
            }
