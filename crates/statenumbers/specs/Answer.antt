-- The job file and its planned table, read once more, and the answer of the call. Assumes nothing.
use Rattle.std.specs.Prelude.{◌≡◌, Bool, true, ℕ, zero, suc, ◌-◌, ◌*◌, ◌≤◌, ◌<◌, take, eqb, Option, Some, None, Result, Ok, Err}
use Rattle.std.proofs.Math.Path.{refl, sym, ap, ap₂}
use Rattle.std.proofs.Common.{subst, ◌∙◌, get_or-take, take_at, drop_at}
use mathlib.Core.List.{List, ◌∷◌, ◌++◌, map, Memᴰ}
use native.Mathlib.Omega.{arith}
use Rattle.std.proofs.Math.ListN.{length, drop, replicate, length-append, length-replicate}
use Rattle.std.proofs.Math.Dec.{T}
use Rattle.rules.specs.Sizes.{max_jobs, max_limit, work_size, states_size}
use Rattle.rules.specs.Basics.{at, filter, range, joined}
use Rattle.rules.specs.Numbers.{word_bytes}
use Rattle.rules.specs.Fields.{Answer, got, after}
use Rattle.rules.specs.Needs.{circle_free}
use Rattle.rules.specs.JobFile.{JobFile, read_file}
use Rattle.rules.specs.Windows.{release, tail}
use Rattle.rules.specs.Table.{Table, starts, encode, decode}
use Rattle.rules.specs.Answers.{Outcome, plan_table, table_of, cleared, written, plan}
use Rattle.rules.specs.Reports.{Reported, report_on, reported}
use Rattle.rules.specs.States.{state_digit, held_jobs, state_digits, base_three, state_number, state_numbers, state_bytes, plan_states}
use Rattle.laws.specs.Tests.{T_true, T-eqb}
use Rattle.laws.specs.Lists.{map-agree, filter_same}
use Rattle.laws.specs.Fields.{got_same, ask-got, after-got}
use Rattle.laws.specs.Counting.{range-below}
use Rattle.laws.specs.Circles.{circle-free}
use Rattle.laws.specs.Width.{window}
use Rattle.laws.specs.States.{held-window, held-is, held-few, report-of, states-short, states-outcome, states-refused, states-reported}
use Rattle.laws.specs.Decoded.{decoded_table}
use Rattle.laws.specs.Demands.{asked, plan-full, answers-full, FromFile, from-file}
use Rattle.laws.proofs.Demands.{answers-table, table-has-bytes}
use Rattle.laws.proofs.Planned.{reads-back}
use Rattle.laws.specs.Writing.{put, put_front, joined-map, joined_same}
use Rattle.bitmap.specs.Marks.{cleared as zeroed}
use Rattle.rows.specs.declared.Rows as code
use Rattle.rows.specs.Rows.{Decodes}
use Rattle.slotstates.specs.Ranks.{Times, times, holding, Narrow, slot-number}
use Rattle.slotstates.specs.Slots.{slot_bytes, slots_bytes, bytes_count}
use Rattle.needrows.specs.Rows.{rows_size}
use Rattle.jobfile.specs.declared.Counts.{Counts}
use Rattle.jobfile.specs.Reading.{Reads}
use Rattle.planner.specs.Planner.{outcome_of, JobsRead}
use Rattle.refusals.specs.declared.Refusal.{Refusal}
use Rattle.refusals.specs.declared.Refusal.TheVariants.{ShortBuffer}

-- the planner gives a table for the file, and these are its bytes
pub record PlannedFor (file table : List ℕ) : Type 0 where
  pub planned-table : Table
  pub is-planned : asked file ≡ got planned-table
  pub bytes-are : table ≡ encode planned-table

-- ---- the file once more

module _ {file table : List ℕ} (p : PlannedFor file table) where
  -- it is readable
  pub read-again : {r : Result Counts Refusal} {o rows : List ℕ} → Reads file r o rows → (c : Counts) × (r ≡ Ok c)
  read-again reads =
      let w = after-got (read_file file) plan_table p.planned-table p.is-planned in
      let h = reads.held w.0 w.1 in
      (h.0, h.1)

  module _ {n L : ℕ} {o rows : List ℕ} (j : JobsRead file n L o rows) where
    -- what the planner gives for it
    gives : plan_table j.file ≡ got p.planned-table
    unfolding after
    gives = sym (ap (λ (x : Answer JobFile). after x plan_table) j.read) ∙ p.is-planned

    -- the table is that of a shortest list, of a file without a circle and not too wide
    from : FromFile j.file p.planned-table
    from = from-file j.file j.keeps p.planned-table gives

    -- 11 says yes again
    pub peeled-yes : (ok : Bool) → ok ≡ circle_free n j.file.needs → ok ≡ true
    peeled-yes ok e = e ∙ (T_true _).0 ((circle-free n j.file.needs j.held.needs-in).1 from.no-circle)

    -- at most as many slots as the limit allows
    slots-few : p.planned-table.slots ≤ L
    unfolding table_of
    slots-few = omega (arith, ap (λ (x : Table). x.slots) from.table_is, from.short.fits, j.held.limit_is)

    -- ---- the table once more

    abbrev N : ℕ
    N = length j.file.jobs

    decodes : decode (eqb N) table ≡ got p.planned-table
    decodes = rw (p.bytes-are, from.table_is) (reads-back j.file j.keeps from.no-circle from.narrow from.list from.short)

    module _ {r : Option code.Rows} {at_rows s b : List ℕ} (d : Decodes table r at_rows s b) where
      -- it is read
      pub rows-again : (t : code.Rows) × (r ≡ Some t)
      rows-again = go r refl
        where
          few : (k : ℕ) → T (eqb N k) → k ≤ max_jobs
          few k t = omega (arith, (T-eqb N k).0 t, j.keeps.jobs-in)

          go : (x : Option code.Rows) → r ≡ x → (t : code.Rows) × (r ≡ Some t)
          go (Some t) e = (t, e)
          go None e = absurd (let z : ◌≡◌ {A = ℕ} 0 1 = cc (sym (d.not-read e (eqb N) few) ∙ decodes) in omega arith)

      module _ {t : code.Rows} (is-some : r ≡ Some t) where
        is-table : (N ≡ t.count) × (decoded_table table t.count ≡ p.planned-table)
        is-table =
            let w = ask-got (eqb N t.count) 14 (got (decoded_table table t.count)) p.planned-table
            (sym ((d.held t is-some).decoded (eqb N)) ∙ decodes) in
            ((T-eqb N t.count).0 w.0, got_same _ _ w.1)

        -- slots and starts are the table's
        pub slots_read : t.slots ≡ p.planned-table.slots
        unfolding decoded_table
        slots_read = (d.held t is-some).slots-is ∙ ap (λ (x : Table). x.slots) is-table.1

        start-read : (i : ℕ) → i < n → at s i ≡ at (starts p.planned-table) i
        start-read i h =
            sym (get_or-take t.count s i 0 (omega (arith, is-table.0, j.held.jobs-is)))
            ∙ ap (λ (l : List ℕ). at l i) ((d.held t is-some).starts-are ∙ ap starts is-table.1)

        -- there is room for the numbers of so many slots
        pub room_for : (states : List ℕ) → states_size ≤ length states → (t.slots ≤ max_limit) × (2 * t.slots ≤ length states)
        room_for states room = omega (arith, slots_read, slots-few, j.held.limit_is, j.keeps.limit-in)

        -- ---- the numbers

        module _ (releases tails : List ℕ) (releases-are : (i : ℕ) → i < n → at releases i ≡ release n j.file.needs i)
            (tails-are : (i : ℕ) → i < n → at tails i ≡ tail n j.file.needs i) where
          abbrev z : Times
          z = times s releases tails n L

          held_same : (k : ℕ) → holding z k n ≡ held_jobs N j.file.needs j.file.limit k
          unfolding holding
          held_same k =
              let e : n - n ≡ 0 = omega arith in
              ap (λ (i : ℕ). filter (window (at releases) (at tails) L k) (range n i)) e
              ∙ filter_same _ _ (range n 0) (λ i m. window_same i ((range-below n i).0 m))
              ∙ ap₂ (λ (m l : ℕ). filter (window (release m j.file.needs) (tail m j.file.needs) l k) (range m 0)) j.held.jobs-is j.held.limit_is
              ∙ sym (held-window N j.file.needs j.file.limit k)
            where
              window_same : (i : ℕ) → i < n → window (at releases) (at tails) L k i ≡ window (release n j.file.needs) (tail n j.file.needs) L k i
              window_same i h = unfold window in rw (releases-are i h, tails-are i h) refl

          -- no more windows hold a slot of the table than a byte has bits
          pub narrow : (k : ℕ) → k < t.slots → Narrow (times s releases tails n L) k
          unfolding Narrow
          narrow k h =
              omega (
                arith,
                ap length (held_same k),
                from.narrow,
                held-few N j.file.needs j.file.limit k
                    (omega (arith, slots_read, slots-few, j.held.limit_is)),
              )

          -- the bytes are those of the rules
          bytes_same : slots_bytes z t.slots ≡ state_bytes j.file p.planned-table
          unfolding slots_bytes state_bytes state_numbers
          bytes_same =
              ap (λ (c : ℕ). joined (slot_bytes z) (range c 0)) slots_read
              ∙ joined_same _ _ (range p.planned-table.slots 0) (λ k m. number_same k ((range-below _ k).0 m))
              ∙ sym (joined-map _ _ (range p.planned-table.slots 0))
            where
              digit-same : (k i : ℕ) → Memᴰ i (held_jobs N j.file.needs j.file.limit k)
                  → state_digit k (at s i) ≡ state_digit k (at (starts p.planned-table) i)
              digit-same k i m =
                  ap (state_digit k) (start-read i (omega (arith, j.held.jobs-is, ((held-is N j.file.needs j.file.limit k i).0 m).0)))

              number_same : (k : ℕ) → k < p.planned-table.slots → slot_bytes z k
                  ≡ word_bytes (state_number N j.file.needs j.file.limit (starts p.planned-table) k)
              number_same k h = unfold slot_bytes state_digits in ap word_bytes (
                  slot-number z k (narrow k (omega (arith, slots_read)))
                  ∙ ap (λ (l : List ℕ). base_three (map (λ i. state_digit k (at s i)) l)) (held_same k)
                  ∙ ap base_three ((map-agree _ _ (held_jobs N j.file.needs j.file.limit k)).1 (digit-same k)))

          -- so written into the buffer they are the report
          pub bytes-written : (states states' : List ℕ) → states_size ≤ length states
              → states' ≡ put 0 (slots_bytes (times s releases tails n L) t.slots) states
              → states' ≡ reported (report_on state_bytes file) states
          unfolding reported
          bytes-written states states' room e =
              e ∙ put_front (slots_bytes z t.slots) states (omega (arith, bytes_count z t.slots, room_for states room))
              ∙ ap (λ (bs : List ℕ). bs ++ drop (length bs) states) bytes_same
              ∙ sym (ap (λ (x : Answer (List ℕ)). reported x states) (report-of j.file p.planned-table file j.read gives))

-- ---- the call

-- zeros that are cleared once more are as they were
cleared-again : (k n : ℕ) (rest : List ℕ) → k ≤ n → replicate k 0 ++ drop k (replicate n 0 ++ rest) ≡ replicate n 0 ++ rest
cleared-again zero n rest h = refl
cleared-again (suc k) zero rest h = absurd (omega arith)
cleared-again (suc k) (suc n) rest h = ap (λ (l : List ℕ). 0 ∷ l) (cleared-again k n rest (omega arith))

-- a list is as long as its front
pub front_long : (part rest : List ℕ) (n : ℕ) → length part ≡ n → n ≤ length (part ++ rest)
front_long part rest n e = omega (arith, e, length-append part rest)

-- too few bytes for the numbers: nothing is changed
pub short-states : (file work table states : List ℕ) → length states < states_size
    → (outcome_of (Err ShortBuffer) work table ≡ (plan_states file work table states).outcome) × (states ≡ (plan_states file work table states).report)
short-states file work table states h =
    let e = states-short file work table states h in (sym (ap (λ (r : Reported). r.outcome) e), sym (ap (λ (r : Reported). r.report) e))

-- enough bytes: what the planner was lent, and what it answered and left
pub record PlanCalled : Type 0 where
  pub file : List ℕ
  pub work : List ℕ
  pub table : List ℕ
  pub states : List ℕ
  pub answer : Result ℕ Refusal
  pub work-left : List ℕ
  pub table-left : List ℕ
  pub room : states_size ≤ length states
  pub answered : outcome_of answer work-left table-left ≡ plan file work table

module _ (c : PlanCalled) where
  -- what the rules give of the planner
  abbrev outcome : Outcome
  outcome = plan c.file c.work c.table

  -- by the answer's variant
  outcome-by : (x : Result ℕ Refusal) → c.answer ≡ x → outcome_of x c.work-left c.table-left ≡ outcome
  outcome-by x e = subst (λ (y : Result ℕ Refusal). outcome_of y c.work-left c.table-left ≡ outcome) e c.answered

  -- number, size and buffers are the planner's
  pub same_outcome : (x : Result ℕ Refusal) → c.answer ≡ x
      → outcome_of x c.work-left c.table-left ≡ (plan_states c.file c.work c.table c.states).outcome
  same_outcome x e = outcome-by x e ∙ sym (states-outcome c.file c.work c.table c.states c.room)

  -- a refusal leaves the bytes for the numbers as they were
  pub refusal-leaves : (q : Refusal) → c.answer ≡ Err q → c.states ≡ (plan_states c.file c.work c.table c.states).report
  refusal-leaves q e = sym (states-refused c.file c.work c.table c.states c.room (λ z. omega (
    arith,
    ap (λ (o : Outcome). o.size) (outcome-by (Err q) e),
    table-has-bytes c.file c.work c.table z,
  )))

  module _ (size : ℕ) (e : c.answer ≡ Ok size) where
    number_is : outcome.number ≡ 0
    number_is = sym (ap (λ (o : Outcome). o.number) (outcome-by (Ok size) e))

    -- the bytes of a table, what was behind them, and the working buffer
    written_is : (T : Table) → asked c.file ≡ got T
        → (size ≡ length (encode T)) × (c.table-left ≡ encode T ++ drop (length (encode T)) c.table) × (c.work-left ≡ cleared c.work)
    unfolding written
    written_is T a =
        let full = answers-full c.file c.work c.table number_is in
        let w = outcome-by (Ok size) e ∙ plan-full c.file c.work c.table full.0 full.1
        ∙ ap (λ (x : Answer Table). written x c.work c.table) a in
        (ap (λ (o : Outcome). o.size) w, ap (λ (o : Outcome). o.table) w, ap (λ (o : Outcome). o.work) w)

    -- so the table is at the front of its buffer
    pub planned-for : PlannedFor c.file (take size c.table-left)
    planned-for =
        let (T, a) = answers-table c.file c.work c.table number_is in
        let w = written_is T a in
        record {
          planned-table = T;
          is-planned = a;
          bytes-are = ap (take size) w.1 ∙ take_at (encode T) (drop (length (encode T)) c.table) size (sym w.0);
        }

    pub size_in : size ≤ length c.table-left
    size_in =
        let (T, a) = answers-table c.file c.work c.table number_is in
        let w = written_is T a in
        omega (arith, w.0, ap length w.1, length-append (encode T) (drop (length (encode T)) c.table))

    -- the working buffer has room for the needs
    pub work_in : rows_size ≤ length c.work-left
    unfolding cleared
    work_in =
        let (T, a) = answers-table c.file c.work c.table number_is in
        omega (
          arith,
          ap length (written_is T a).2,
          length-append (replicate work_size 0) (drop work_size c.work),
          length-replicate {A = ℕ} work_size 0,
        )

    -- cleared of them, it is as the planner left it
    pub work-again : (part work' : List ℕ) → length part ≡ rows_size → work' ≡ zeroed rows_size (part ++ drop rows_size c.work-left) → work' ≡ c.work-left
    unfolding zeroed cleared
    work-again part work' e z =
        let (T, a) = answers-table c.file c.work c.table number_is in
        let left = (written_is T a).2 in
        z ∙ ap (replicate rows_size 0 ++◌) (drop_at part (drop rows_size c.work-left) rows_size e)
        ∙ ap (λ (w : List ℕ). replicate rows_size 0 ++ drop rows_size w) left
        ∙ cleared-again rows_size work_size (drop work_size c.work) (omega arith) ∙ sym left

    -- so the answer is the planner's
    pub table-outcome : (work' : List ℕ) → work' ≡ c.work-left
        → outcome_of (Ok size) work' c.table-left ≡ (plan_states c.file c.work c.table c.states).outcome
    table-outcome work' q = rw q (same_outcome (Ok size) e)

    -- and its numbers are given
    pub reports : (states' : List ℕ) → states' ≡ reported (report_on state_bytes c.file) c.states
        → states' ≡ (plan_states c.file c.work c.table c.states).report
    reports states' w = w ∙ sym (states-reported c.file c.work c.table c.states c.room number_is)
