-- State numbers (document 02, request 11): which jobs a slot's number speaks of, what its digits say, that no two states of a slot share a number, and
-- what the call leaves. Assumes nothing.
use Rattle.std.specs.Prelude.{◌≡◌, refl, ◌↔◌, ℕ, ◌+◌, ◌*◌, ◌^◌, ◌≤◌, ◌<◌, ℤ, pos, ◌-ℤ◌, leb, ltb, eqb}
use Rattle.std.proofs.Math.Path.{sym, ap, ap₂}
use Rattle.std.proofs.Common.{◌∙◌, pow-suc, arith}
use mathlib.Core.List.{List, [], ◌∷◌, Memᴰ}
use Rattle.std.proofs.Math.Nat.{pow-le-pow_right}
use Rattle.std.proofs.Math.ListN.{length, drop, length-map}
use Rattle.std.proofs.Math.Dec.{T}
use Rattle.rules.specs.Sizes.{max_width, states_size}
use Rattle.rules.specs.Basics.{choose, at, filter, range, count}
use Rattle.rules.specs.Numbers.{word}
use Rattle.rules.specs.Fields.{got, after}
use Rattle.rules.specs.Needs.{Need, NeedsIn, Circle}
use Rattle.rules.specs.JobFile.{JobFile, most_boards, read_file}
use Rattle.rules.specs.Program.{slots}
use Rattle.rules.specs.Windows.{Formula1, Formula2, release, tail, Holds, width}
use Rattle.rules.specs.Table.{Table}
use Rattle.rules.specs.Answers.{Outcome, plan_table, plan}
use Rattle.rules.specs.Reports.{Reported, report_on, reported, plan_report}
use Rattle.rules.specs.States.{state_digit, held_jobs, state_digits, base_three, state_number, state_bytes, plan_states}
use Rattle.laws.specs.Tests.{T-leb, T-ltb, T-eqb, by-choice, choose_yes, choose_no}
use Rattle.laws.specs.Lists.{Rising, map-agree, map-mem⁻¹, range-rising, filter-mem, filter-mem⁻¹, filter_same, filter-rising}
use Rattle.laws.specs.Counting.{range-below, most-ge}
use Rattle.laws.specs.Releases.{release-only}
use Rattle.laws.specs.Deadlines.{holds-is, deadline-only}
use Rattle.laws.specs.Width.{window, window-is, file-window, width-window}
use Rattle.laws.specs.JobFile.{Readable}
use Rattle.laws.specs.Best.{Shortest}
use Rattle.laws.specs.Demands.{FromFile}

-- ---- the jobs of a slot

module _ (n : ℕ) (needs : List Need) (L s : ℕ) where
  -- by the test over the natural numbers
  pub held-window : held_jobs n needs L s ≡ filter (window (release n needs) (tail n needs) L s) (range n 0)
  unfolding held_jobs
  held-window = filter_same _ _ (range n 0) (λ i _. file-window n needs L s i)

  -- "The jobs whose windows hold the slot": just these, by release, tail and limit
  pub held-is : (i : ℕ) → Memᴰ i (held_jobs n needs L s) ↔ ((i < n) × (release n needs i ≤ s) × (s + 1 + tail n needs i ≤ L))
  held-is i = rw held-window (
    λ m. let w = filter-mem⁻¹ _ (range n 0) i m in
        let k = (window-is (release n needs) (tail n needs) L s i).0 w.1 in ((range-below n i).0 w.0, k.0, k.1),
    λ h. filter-mem _ (range n 0) i ((range-below n i).1 h.0) ((window-is (release n needs) (tail n needs) L s i).1 (h.1, h.2)),
  )

  -- "in rising number"
  pub held-rising : Rising (held_jobs n needs L s)
  held-rising = rw held-window (filter-rising _ (range n 0) (range-rising n 0))

  -- "at most eight" where the width is: no more than the width, in a slot below the limit
  pub held-few : s < L → length (held_jobs n needs L s) ≤ width n needs L
  unfolding count
  held-few h =
      rw (held-window, width-window n needs L) (most-ge (λ k. count (window (release n needs) (tail n needs) L k) n) L s h)

-- by the formulas as printed: of the dates that satisfy (1) and (2), the windows that hold the slot
pub held-formulas : (n : ℕ) (needs : List Need) (L s : ℕ) → NeedsIn n needs → ¬ (Circle needs)
    → (r : ℕ → ℕ) → ((i : ℕ) → i < n → Formula1 needs r i) → (d : ℕ → ℤ) → ((i : ℕ) → i < n → Formula2 needs L d i)
    → (i : ℕ) → Memᴰ i (held_jobs n needs L s) ↔ ((i < n) × Holds (pos (r i)) (d i) s)
held-formulas n needs L s needs-in free r hr d hd i = (
  λ m. let w = (held-is n needs L s i).0 m in
      (w.0, rw (is-r w.0, is-d w.0) ((holds-is L (release n needs i) (tail n needs i) s).1 (w.1, w.2))),
  λ h. let w = (holds-is L (release n needs i) (tail n needs i) s).0 (rw (← (is-r h.0), ← (is-d h.0)) h.1) in
      (held-is n needs L s i).1 (h.0, w.0, w.1),
)
  where
    is-r : i < n → r i ≡ release n needs i
    is-r l = release-only n needs needs-in free r hr i l

    is-d : i < n → d i ≡ pos L -ℤ pos (tail n needs i)
    is-d l = deadline-only n needs needs-in free L d hd i l

-- ---- the digits

-- "0 not done, 1 done in an earlier slot, 2 running now", of a job that starts in slot t
pub record DigitSays (s t d : ℕ) : Type 0 where
  pub not_done : (d ≡ 0) ↔ (s < t)
  pub done-earlier : (d ≡ 1) ↔ (t < s)
  pub running-now : (d ≡ 2) ↔ (t ≡ s)

pub digit-says : (s t : ℕ) → DigitSays s t (state_digit s t)
unfolding state_digit
digit-says s t =
    by-choice (DigitSays s t) (ltb s t)
    (λ a. let h = (T-ltb s t).0 a in record { not_done = omega arith; done-earlier = omega arith; running-now = omega arith })
    (λ a. by-choice (DigitSays s t) (ltb t s)
    (λ b. let h = (T-ltb t s).0 b in record { not_done = omega arith; done-earlier = omega arith; running-now = omega arith })
    (λ b. let e : t ≡ s = late a b in record { not_done = omega arith; done-earlier = omega arith; running-now = omega arith }))
  where
    late : (T (ltb s t) → ⊥) → (T (ltb t s) → ⊥) → t ≡ s
    late a b = let h : ¬ (s < t) = λ l. a ((T-ltb s t).1 l) in let k : ¬ (t < s) = λ l. b ((T-ltb t s).1 l) in omega arith

pub digit_lt : (s t : ℕ) → state_digit s t < 3
unfolding state_digit
digit_lt s t = by-choice (λ (d : ℕ). d < 3) (ltb s t) (λ _. omega arith) (λ _. by-choice (λ (d : ℕ). d < 3) (ltb t s) (λ _. omega arith) (λ _. omega arith))

-- ---- base three

-- each entry is a digit in base three
abbrev pub Digits : List ℕ → Type 0
Digits ds = (d : ℕ) → Memᴰ d ds → d < 3

-- k digits give a number below 3 to the power k
pub base-lt : (ds : List ℕ) → Digits ds → base_three ds < 3 ^ length ds
unfolding base_three
base-lt [] small = omega arith
base-lt (d ∷ ds) small =
    omega (arith, small d (Memᴰ.head refl), base-lt ds (λ e m. small e (Memᴰ.tail m)), pow-suc 3 (length ds))

-- as many digits with the same number are the same
pub base_same : (ds es : List ℕ) → Digits ds → Digits es → length ds ≡ length es → base_three ds ≡ base_three es → ds ≡ es
unfolding base_three
base_same [] [] a b l e = refl
base_same [] (x ∷ es) a b l e = absurd (omega arith)
base_same (d ∷ ds) [] a b l e = absurd (omega arith)
base_same (d ∷ ds) (x ∷ es) a b l e =
    let w : (d ≡ x) × (base_three ds ≡ base_three es) = omega (arith, e, a d (Memᴰ.head refl), b x (Memᴰ.head refl)) in
    ap₂ (λ (y : ℕ) (ys : List ℕ). y ∷ ys) w.0 (base_same ds es (λ y m. a y (Memᴰ.tail m)) (λ y m. b y (Memᴰ.tail m)) (omega arith) w.1)

-- ---- the number of a slot

module _ (n : ℕ) (needs : List Need) (L : ℕ) (t : List ℕ) (s : ℕ) where
  digits_in : Digits (state_digits n needs L t s)
  unfolding state_digits
  digits_in = map-mem⁻¹ (λ (d : ℕ). d < 3) _ (held_jobs n needs L s) (λ i _. digit_lt s (at t i))

  digits-count : length (state_digits n needs L t s) ≡ length (held_jobs n needs L s)
  unfolding state_digits
  digits-count = length-map (held_jobs n needs L s) _

  -- "all are below 6,561": in a slot below the limit, of a file that is not too wide
  pub number-below : s < L → width n needs L ≤ max_width → state_number n needs L t s < 6561
  number-below h w =
      omega (
        arith,
        base-lt (state_digits n needs L t s) digits_in,
        pow-le-pow_right {n = 3} (omega arith) {i = length (state_digits n needs L t s)} {j = 8} (omega (arith, digits-count, held-few n needs L s h, w)),
      )

-- "No two states of a slot share a number": two start lists with the same number in a slot have each of its jobs not done, done or running alike
pub same-state : (n : ℕ) (needs : List Need) (L : ℕ) (t u : List ℕ) (s : ℕ) → state_number n needs L t s ≡ state_number n needs L u s
    → (i : ℕ) → Memᴰ i (held_jobs n needs L s) → state_digit s (at t i) ≡ state_digit s (at u i)
unfolding state_digits
same-state n needs L t u s e =
    (map-agree _ _ (held_jobs n needs L s)).0 (base_same (state_digits n needs L t s) (state_digits n needs L u s)
    (digits_in n needs L t s) (digits_in n needs L u s) (digits-count n needs L t s ∙ sym (digits-count n needs L u s)) e)

-- ---- the bytes

-- the report of a file that is planned
pub report-of : (f : JobFile) (T : Table) (file : List ℕ) → read_file file ≡ got f → plan_table f ≡ got T → report_on state_bytes file ≡ got (state_bytes f T)
unfolding report_on after
report-of f T file read planned = rw (read, planned) refl

-- ---- the call

-- what the screen gets for a planned table: of each slot the number of its jobs' digits, by the planned list and the windows of the file's limit
pub record ShowsStates (file states : List ℕ) (report : List ℕ) : Type 0 where
  pub file-read : JobFile
  pub read : read_file file ≡ got file-read
  pub list : List ℕ
  pub planned : Shortest (length file-read.jobs) file-read.needs (most_boards file-read) file-read.limit list
  pub numbers : (s : ℕ) → s < slots list → word (at report (2 * s)) (at report (2 * s + 1))
      ≡ state_number (length file-read.jobs) file-read.needs file-read.limit list s
  pub small : (s : ℕ) → s < slots list → word (at report (2 * s)) (at report (2 * s + 1)) < 6561
  pub behind-untouched : drop (2 * slots list) report ≡ drop (2 * slots list) states

module _ (f : JobFile) (T : Table) (states : List ℕ) (ok : Readable f) (w : FromFile f T) where
  abbrev n : ℕ
  n = length f.jobs

module _ (file work table states : List ℕ) where
  -- fewer than 128 bytes for the numbers: 1, and nothing is touched
  pub states-short : length states < states_size
      → plan_states file work table states ≡ record { outcome = record { number = 1; size = 0; table = table; work = work }; report = states }
  unfolding plan_states plan_report
  states-short h = choose_no _ _ _ (λ c. let d = (T-leb states_size (length states)).0 c in omega arith)

  -- so what holds of the planner's answer and of that refusal holds of the call's
  pub states-each : (P : Outcome → Type 0) → P (plan file work table) → P (record { number = 1; size = 0; table = table; work = work })
      → P (plan_states file work table states).outcome
  unfolding plan_states plan_report
  states-each P planned short =
      by-choice (λ (r : Reported). P r.outcome) (leb states_size (length states)) (λ _. planned) (λ _. short)

  module _ (room : states_size ≤ length states) where
    abbrev o : Outcome
    o = plan file work table

    full : plan_states file work table states
        ≡ record { outcome = o; report = choose (eqb o.number 0) (reported (report_on state_bytes file) states) states }
    unfolding plan_states plan_report
    full = choose_yes _ _ _ ((T-leb states_size (length states)).1 room)

    -- else number, size and both buffers are the planner's
    pub states-outcome : (plan_states file work table states).outcome ≡ plan file work table
    states-outcome = ap (λ (r : Reported). r.outcome) full

    -- a refusal leaves the bytes for the numbers as they were
    pub states-refused : ((plan file work table).number ≡ 0 → ⊥) → (plan_states file work table states).report ≡ states
    states-refused n = ap (λ (r : Reported). r.report) full ∙ choose_no _ _ _ (λ c. n ((T-eqb o.number 0).0 c))

    -- a table is reported
    pub states-reported : (plan file work table).number ≡ 0 → (plan_states file work table states).report ≡ reported (report_on state_bytes file) states
    states-reported z = ap (λ (r : Reported). r.report) full ∙ choose_yes _ _ _ ((T-eqb o.number 0).1 z)
