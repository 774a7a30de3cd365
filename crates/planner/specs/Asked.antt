-- Questions 2 to 13 and 21: a refusal, or what the rest is given. Assumes nothing.
use Rattle.std.specs.Prelude.{◌≡◌, refl, ◌↔◌, Bool, true, set, drop, replicate, leb, Option, Some, None, Result, Ok, Err}
use Rattle.std.specs.Option.{unwrap_or}
use Rattle.std.proofs.Math.Path.{sym, ap, ap₂}
use Rattle.std.proofs.Common.{subst, ◌∙◌, add-mul, one-mul, div-lt_iff_lt-mul, drop_at}
use Rattle.std.proofs.Math.Bool.{false}
use mathlib.Core.List.{List, ◌++◌}
use Rattle.std.proofs.Math.Option.{none}
use Prim.Native.Nat.{ℕ, suc, ◌+◌, ◌-◌, ◌*◌, ◌/◌, ◌≤◌, ◌<◌}
use native.Mathlib.Omega.{arith}
use Rattle.std.proofs.Math.ListN.{length}
use Rattle.std.proofs.Math.Seq.{get_or-set_same}
use Rattle.std.proofs.Math.Dec.{T}
use Rattle.rules.specs.Sizes.{max_boards, work_size, table_size, max_limit, max_width}
use Rattle.rules.specs.Basics.{at}
use Rattle.rules.specs.Fields.{Answer, after}
use Rattle.rules.specs.Needs as rules
use Rattle.rules.specs.Needs.{Need, NeedsIn, circle_free}
use Rattle.rules.specs.JobFile.{JobFile, most_boards, read_file}
use Rattle.rules.specs.Boards.{Runs}
use Rattle.rules.specs.Windows.{release, tail, width}
use Rattle.rules.specs.Answers.{plan_table, tabled, plan, cleared}
use Rattle.laws.specs.Tests.{T_true, T-leb, tests, choose_yes, choose_no}
use Rattle.laws.specs.Fields.{ask-yes, ask-no}
use Rattle.laws.specs.Numbers.{bytes-all}
use Rattle.laws.specs.JobFile.{readable}
use Rattle.laws.specs.Circles.{circle-free}
use Rattle.laws.specs.Counting.{most-le}
use Rattle.dominance.specs.Count.{AtLeast}
use Rattle.jobfile.specs.declared.Counts.{Counts}
use Rattle.jobfile.specs.Reading as reading
use Rattle.jobfile.specs.Reading.{Reads}
use Rattle.jobfile.specs.Whole.{reads-no, reads-yes, most-given}
use Rattle.jobfile.proofs.Holding.{recounted}
use Rattle.needrows.specs.Rows.{RowsAre}
use Rattle.releases.specs.Ordered.{OfNeeds, OrderOf, Peeled}
use Rattle.releases.specs.Least.{least_of, least-is as spans-iff}
use Rattle.places.specs.Windows.{Windows}
use Rattle.places.specs.Assign.{entering-is}
use Rattle.places.specs.OfFile.{file_windows, file-leads}
use Rattle.layout.specs.Layout.{cap_at}
use Rattle.shortest.specs.OfFile.{file-bounds, file-room, least-low, wide-iff}
use Rattle.seats.specs.Order.{order_of, HasPlaces}
use Rattle.seats.specs.Enter.{Given}
use Rattle.seats.specs.Filled.{filled-beyond}
use Rattle.seats.specs.Slots.{SeatedIn}
use Rattle.seats.specs.OfFile.{file-given}
use Rattle.lengths.specs.Searching.{Search, Found}
use Rattle.bitmap.specs.Marks.{cleared as zeroed}
use Rattle.refusals.specs.declared.Refusal.{Refusal}
use Rattle.refusals.specs.declared.Refusal.TheVariants.{Circle, TooWide, NoPlan}
use Rattle.planner.specs.Planner.{outcome_of, Answers, first_length, JobsRead, WindowsRead, PlanRead}
use Rattle.planner.specs.Tabled.{answers-refused, tabled-is}

-- n divided by c, rounded up, is no more than s where n is no more than s times c
rounded-up : (n c s : ℕ) → 0 < c → n ≤ s * c → (n + (c - 1)) / c ≤ s
rounded-up n c s p h = let l : n + (c - 1) < (s + 1) * c = omega (arith, add-mul s 1 c, one-mul c) in omega (arith, (div-lt_iff_lt-mul p).1 l)

-- ---- questions 2 to 10, and 21

module _ {bs o rows : List ℕ} where
  -- the reader refuses
  pub read-refused : {q : Refusal} → Reads bs (Err q) o rows → (table : List ℕ) → Answers bs (Err q) table table
  unfolding after
  read-refused {q} reads table = answers-refused bs q table (ap (λ (x : Answer JobFile). after x plan_table) (reads-no bs q o rows reads))

  module _ {c : Counts} (reads : Reads bs (Ok c) o rows) where
    -- or offsets and rows hold the file
    pub jobs-read : ((i : ℕ) → at bs i < 256) → JobsRead bs c.jobs c.limit o rows
    jobs-read bytes =
        let w = reads-yes bs c o rows reads in
        let f = w.0 in
        record {
          file = f;
          read = w.1;
          keeps = readable bs (bytes-all bs bytes) f w.1;
          held = recounted bs f _ w.2 f.fields f.fields c.limit f.limit (reading.given f.sockets) f.sockets refl w.2.limit_is refl;
        }

    -- and the most boards are those that it says
    pub boards-read : (j : JobsRead bs c.jobs c.limit o rows) (b : ℕ) → b ≡ unwrap_or c.sockets max_boards → b ≡ most_boards j.file
    unfolding most_boards
    boards-read j b e =
        let h = reads.held j.file j.read in
        let same : h.0 ≡ c = cc in
        let sockets : c.sockets ≡ reading.given j.file.sockets = rw (← same) h.2.sockets-is in
        e ∙ most-given c.sockets j.file.sockets sockets

-- ---- question 11

module _ {bs : List ℕ} {n L : ℕ} {o rows : List ℕ} (j : JobsRead bs n L o rows) where
  -- the needs in the rows
  pub of-needs : OfNeeds rows n
  of-needs = record {
    jobs-few = j.held.few;
    rows_fit = omega (arith, j.held.few, j.held.sizes.1);
    needs = j.file.needs;
    needs-in = j.held.needs-in;
    rows_are = j.held.rows_are;
  }

  -- the file is readable: the planner goes on to 11
  goes_on : after (read_file bs) plan_table ≡ plan_table j.file
  unfolding after
  goes_on = ap (λ (x : Answer JobFile). after x plan_table) j.read

  -- the answer about circles is the file's
  circle-test : (ok : Bool) → ok ≡ circle_free n j.file.needs → ok ≡ circle_free (length j.file.jobs) j.file.needs
  circle-test ok e = e ∙ ap (λ (k : ℕ). circle_free k j.file.needs) j.held.jobs-is

  -- 11 says no
  pub refused-11 : (ok : Bool) → ok ≡ circle_free n j.file.needs → (table : List ℕ) → ok ≡ false → Answers bs (Err Circle) table table
  unfolding plan_table
  refused-11 ok is table e =
      answers-refused bs Circle table (goes_on ∙ ask-no (circle_free (length j.file.jobs) j.file.needs) 11 _ (no (sym (circle-test ok is) ∙ e)))
    where
      no : circle_free (length j.file.jobs) j.file.needs ≡ false → T (circle_free (length j.file.jobs) j.file.needs) → ⊥
      no z c = rw z at c

  module _ (ok : Bool) (order releases : List ℕ) (peeled : Peeled n j.file.needs ok order releases) (yes-ok : ok ≡ true) where
    -- or there is an order for the tails
    pub order-of : OrderOf rows n order
    unfolding of-needs
    order-of = record { of-needs = of-needs; sorted = peeled.sorted yes-ok }

    -- and releases and tails are read
    pub windows-read : (b : ℕ) (tails : List ℕ) → b ≡ most_boards j.file
        → ((needs : List Need) → NeedsIn n needs → RowsAre rows n needs → (i : ℕ) → i < n → at tails i ≡ tail n needs i)
        → WindowsRead bs n L b o rows releases tails
    windows-read b tails e t = record {
      jobs = j;
      free = (T_true _).1 (sym peeled.answer ∙ yes-ok);
      boards-are = e;
      releases-are = peeled.releases-are yes-ok;
      tails-are = t j.file.needs j.held.needs-in j.held.rows_are;
    }

-- ---- questions 12 and 13

module _ {bs : List ℕ} {n L b : ℕ} {o rows releases tails : List ℕ} (l : WindowsRead bs n L b o rows releases tails) where
  -- the file, its needs and its windows
  abbrev f : JobFile
  f = l.jobs.file

  abbrev needs : List Need
  needs = f.needs

  abbrev pub windows : Windows
  windows = file_windows n l.jobs.file.needs L

  needs-in : NeedsIn n needs
  needs-in = l.jobs.held.needs-in

  no-circle : ¬ (rules.Circle needs)
  no-circle = (circle-free n needs needs-in).0 l.free

  limit-in : (1 ≤ L) × (L ≤ max_limit)
  limit-in = let w = l.jobs.keeps.limit-in in omega (arith, l.jobs.held.limit_is)

  -- jobs, limit and boards are at least one
  pub some-jobs : 1 ≤ n
  some-jobs = omega (arith, l.jobs.keeps.jobs-in, l.jobs.held.jobs-is)

  pub some-limit : 1 ≤ L
  some-limit = limit-in.0

  pub some-boards : 0 < b
  some-boards = omega (arith, l.boards-are, l.jobs.keeps.boards-in)

  -- the windows as arrays
  pub given : Given (file_windows n l.jobs.file.needs L) rows releases tails n L
  given = file-given (record {
    needs-in = needs-in;
    free = no-circle;
    jobs-fit = l.jobs.held.few;
    limit-fits = limit-in.1;
    rows_fit = (of-needs l.jobs).rows_fit;
    rows_are = l.jobs.held.rows_are;
    releases-are = l.releases-are;
    tails-are = l.tails-are;
  })

  -- each job has a place exactly where the file is not too wide
  narrow-iff : HasPlaces windows ↔ (width n needs L ≤ max_width)
  narrow-iff = wide-iff n needs L needs-in (order_of windows) (entering-is windows)

  -- 12 says no
  pub refused-12 : (table : List ℕ) → ¬ (HasPlaces windows) → Answers bs (Err TooWide) table table
  unfolding plan_table
  refused-12 table out = answers-refused bs TooWide table (
      goes_on l.jobs ∙ ask-yes (circle_free (length f.jobs) needs) 11 _ (subst (λ (k : ℕ). T (circle_free k needs)) l.jobs.held.jobs-is l.free)
      ∙ ask-no (leb (width (length f.jobs) needs f.limit) max_width) 12 _ wide)
    where
      wide : T (leb (width (length f.jobs) needs f.limit) max_width) → ⊥
      wide c =
          let e = ap₂ (λ (k d : ℕ). width k needs d) l.jobs.held.jobs-is l.jobs.held.limit_is in
          out (narrow-iff.1 (omega (arith, e, (T-leb (width (length f.jobs) needs f.limit) max_width).0 c)))

  module _ {r : ℕ} {words places : List ℕ} (seated : SeatedIn (file_windows n l.jobs.file.needs L) L r words places) where
    module _ (least : ℕ) (first : least ≡ first_length (least_of releases tails n) n b) where
      -- a length from the first on leaves each job room
      roomy : (C : ℕ) → least ≤ C → (i : ℕ) → i < n → release n needs i + tail n needs i < C
      unfolding first_length
      roomy C h i k = omega (arith, (spans-iff releases tails n C).0 (omega (arith, first)) i k, l.releases-are i k, l.tails-are i k)

      -- and no list is below it
      low : AtLeast n (Runs n needs b) least
      unfolding first_length
      low = least-low n needs L needs-in b least (λ C g k. omega (
        arith,
        first,
        (spans-iff releases tails n C).1 (λ i h. omega (arith, g i h, l.releases-are i h, l.tails-are i h)),
        rounded-up n b C some-boards k,
      ))

      -- what the search asks
      pub search-asked : (bytes : ℕ) (path : List ℕ) → work_size ≤ bytes → length path ≡ max_limit
          → Search (file_windows n l.jobs.file.needs L) b r least L n (set words cap_at b) places tails bytes path
      unfolding file_windows
      search-asked bytes path h e = record {
        leads = unfold file_windows in file-leads n needs L needs-in no-circle;
        bounds = unfold file_windows in file-bounds n needs L needs-in;
        count = refl;
        jobs-fit = l.jobs.held.few;
        rows = filled-beyond cap_at b (omega arith) (omega arith) (omega (arith, seated.few, limit-in)) seated.filled;
        some = seated.some;
        more = omega (arith, seated.within, most-le (λ i. suc (release n needs i)) n least (λ i k. omega (arith, roomy least (omega arith) i k)));
        limit-pos = limit-in.0;
        few = limit-in.1;
        room = λ C g k. unfold file_windows in file-room n needs L needs-in C k (roomy C g);
        in-time = λ i h. omega arith;
        places-are = λ i h. seated.places-are i h;
        tails-are = l.tails-are;
        cap-at = get_or-set_same words cap_at b 0 (omega (arith, seated.filled.rows.small.len));
        low = low;
        bitmap-fits = omega arith;
        path-len = e;
      }

    module _ {s : Option ℕ} {words' path : List ℕ} (found : Found (file_windows n l.jobs.file.needs L) b L s words' path) where
      narrow : width n needs L ≤ max_width
      narrow = narrow-iff.0 seated.enough

      -- 13 says no
      pub refused-13 : (table : List ℕ) → s ≡ None → Answers bs (Err NoPlan) table table
      unfolding tabled file_windows
      refused-13 table z =
          answers-refused bs NoPlan table (tabled-is l.jobs no-circle narrow none (rw (← l.boards-are) (found.no-list z)))

      -- or there is a plan
      pub plan-read : (slots : ℕ) → s ≡ Some slots → PlanRead bs n o words' path slots
      plan-read slots e = record {
        limit = L;
        rows = rows;
        jobs = l.jobs;
        free = l.free;
        narrow = narrow;
        found = rw (← l.boards-are) (found.a-plan slots e).1;
      }

-- ---- question 1, and the working buffer afterwards

module _ (file work table : List ℕ) where
  -- a buffer is too small: nothing is changed
  pub short-work : length work < work_size → record { number = 1; size = 0; table = table; work = work } ≡ plan file work table
  unfolding plan
  short-work h = sym (choose_no _ _ _ (λ c. let d : (work_size ≤ length work) × (table_size ≤ length table) = simp tests at c in omega (arith, d)))

  pub short-table : length table < table_size → record { number = 1; size = 0; table = table; work = work } ≡ plan file work table
  unfolding plan
  short-table h = sym (choose_no _ _ _ (λ c. let d : (work_size ≤ length work) × (table_size ≤ length table) = simp tests at c in omega (arith, d)))

  -- both are full: what the rest answers, with the working buffer cleared, whatever its front holds
  pub full-buffers : (r : Result ℕ Refusal) (part work' table' : List ℕ) → work_size ≤ length work → table_size ≤ length table → length part ≡ work_size
      → work' ≡ zeroed work_size (part ++ drop work_size work) → Answers file r table table' → outcome_of r work' table' ≡ plan file work table
  unfolding plan Answers cleared zeroed
  full-buffers r part work' table' hw ht e z a =
      ap (λ (w : List ℕ). outcome_of r w table') (z ∙ ap (replicate work_size 0 ++◌) (drop_at part (drop work_size work) work_size e))
      ∙ a work ∙ sym (choose_yes _ _ _ (simp tests (hw, ht)))
