-- State numbers (document 02, request 11): which jobs a slot's number speaks of, what its digits say, that no two states of a slot share a number, and
-- what the call leaves. Assumes nothing.
-- The definitions are in specs/States.antt; here are the theorems that depend on what a must-fail edit breaks.
use Rattle.std.specs.Prelude.{◌≡◌, refl, ◌⊎◌, ℕ, zero, suc, ◌+◌, ◌*◌, ◌≤◌, ◌<◌}
use Rattle.std.proofs.Math.Path.{sym, ap, ap₂}
use Rattle.std.proofs.Common.{◌∙◌, arith}
use mathlib.Core.List.{List, [], ◌∷◌}
use Rattle.std.proofs.Math.ListN.{length, drop, length-map, get_or-append}
use Rattle.std.proofs.Math.Seq.{drop-append_seam}
use Rattle.std.proofs.Math.Dec.{T}
use Rattle.rules.specs.Sizes.{work_size, table_size, states_size}
use Rattle.rules.specs.Basics.{at, range, joined}
use Rattle.rules.specs.Numbers.{Bytes, word, word_bytes}
use Rattle.rules.specs.Fields.{got}
use Rattle.rules.specs.JobFile.{JobFile, read_file}
use Rattle.rules.specs.Program.{slots}
use Rattle.rules.specs.Table.{Table, starts}
use Rattle.rules.specs.Answers.{table_of, plan_table, plan}
use Rattle.rules.specs.Reports.{reported}
use Rattle.rules.specs.States.{state_number, state_numbers, state_bytes, plan_states}
use Rattle.laws.specs.Lists.{tabulate-at, map_range}
use Rattle.laws.specs.Counting.{length-range}
use Rattle.laws.specs.Writing.{length-joined}
use Rattle.laws.specs.Numbers.{word_split}
use Rattle.laws.specs.Fields.{after-got}
use Rattle.laws.specs.JobFile.{Readable, readable}
use Rattle.laws.specs.Refusals.{PlanNumber}
use Rattle.laws.specs.Planned.{starts-are}
use Rattle.laws.specs.Demands.{FromFile, from-file}
use Rattle.laws.proofs.Demands.{plan-numbers, answers-table}
use Rattle.laws.specs.States.{number-below, report-of, ShowsStates, states-outcome, states-reported}

-- ---- the bytes

-- the numbers stand one behind the other, two bytes each
two_at_lem : (ws : List ℕ) (s : ℕ) → s < length ws → at ws s < 65536 → word (at (joined word_bytes ws) (2 * s)) (at (joined word_bytes ws) (2 * s + 1)) ≡ at ws s
unfolding joined
two_at_lem [] s h small = absurd (omega arith)
two_at_lem (w ∷ ws) zero h small = (word_split w small).0
two_at_lem (w ∷ ws) (suc s) h small =
    let e : 2 * suc s ≡ suc (suc (2 * s)) = omega arith in
    let q : suc (suc (2 * s)) + 1 ≡ suc (suc (2 * s + 1)) = omega arith in rw (e, q) (two_at_lem ws s (omega arith) small)

module _ (f : JobFile) (T : Table) where
  numbers-count : length (state_numbers f T) ≡ T.slots
  unfolding state_numbers
  numbers-count = length-map (range T.slots 0) _ ∙ length-range T.slots 0

  bytes_count : length (state_bytes f T) ≡ 2 * T.slots
  unfolding state_bytes
  bytes_count = length-joined word_bytes 2 (λ w. refl) (state_numbers f T) ∙ ap (2 *◌) numbers-count

  -- the number of slot s, where it fits two bytes
  shown-at : (states : List ℕ) (s : ℕ) → s < T.slots → (w : ℕ) → w ≡ state_number (length f.jobs) f.needs f.limit (starts T) s → w < 65536
      → word (at (reported (got (state_bytes f T)) states) (2 * s)) (at (reported (got (state_bytes f T)) states) (2 * s + 1)) ≡ w
  unfolding reported state_bytes
  shown-at states s h w e small =
      let rest = drop (length (state_bytes f T)) states in
      ap₂ word (get_or-append (state_bytes f T) rest 0 (2 * s) (omega (arith, bytes_count)))
      (get_or-append (state_bytes f T) rest 0 (2 * s + 1) (omega (arith, bytes_count)))
      ∙ two_at_lem (state_numbers f T) s (omega (arith, numbers-count)) (omega (arith, number)) ∙ number
    where
      number : at (state_numbers f T) s ≡ w
      number = unfold state_numbers in rw (map_range (state_number (length f.jobs) f.needs f.limit (starts T)) T.slots 0)
          (tabulate-at _ T.slots 0 s 0 h ∙ ap (state_number (length f.jobs) f.needs f.limit (starts T)) (omega arith) ∙ sym e)

-- ---- the call

module _ (f : JobFile) (T : Table) (states : List ℕ) (ok : Readable f) (w : FromFile f T) where
  abbrev n : ℕ
  n = length f.jobs

  slots-are : T.slots ≡ slots w.list
  unfolding table_of
  slots-are = ap (λ (x : Table). x.slots) w.table_is

  starts-back : starts T ≡ w.list
  starts-back = ap (λ (x : Table). starts x) w.table_is ∙ starts-are f ok w.no-circle w.narrow w.list w.short

  below : (s : ℕ) → s < slots w.list → state_number n f.needs f.limit w.list s < 6561
  below s h = number-below n f.needs f.limit w.list s (omega (arith, w.short.fits)) w.narrow

  number_is : (s : ℕ) → s < slots w.list → let report = reported (got (state_bytes f T)) states in
      word (at report (2 * s)) (at report (2 * s + 1)) ≡ state_number n f.needs f.limit w.list s
  number_is s h =
      shown-at f T states s (omega (arith, slots-are)) _ (ap (λ (t : List ℕ). state_number n f.needs f.limit t s) (sym starts-back))
      (omega (arith, below s h))

  shows-states : (file : List ℕ) → read_file file ≡ got f → ShowsStates file states (reported (got (state_bytes f T)) states)
  shows-states file read = record {
    file-read = f;
    read = read;
    list = w.list;
    planned = w.short;
    numbers = number_is;
    small = λ s h. omega (arith, number_is s h, below s h);
    behind-untouched = rw length-is (unfold reported in drop-append_seam (state_bytes f T) (drop (length (state_bytes f T)) states));
  }
    where
      length-is : 2 * slots w.list ≡ length (state_bytes f T)
      length-is = omega (arith, bytes_count f T, slots-are)

module _ (file work table states : List ℕ) where
  module _ (room : states_size ≤ length states) where
    -- with full buffers its refusals are those of the questions 2 to 13, but 9, and 21
    pub states-numbers : work_size ≤ length work → table_size ≤ length table
        → ((plan_states file work table states).outcome.number ≡ 0) ⊎ PlanNumber (plan_states file work table states).outcome.number
    states-numbers work-full table-full = rw (states-outcome file work table states room) (plan-numbers file work table work-full table-full)

    -- so its numbers are shown
    pub states-shown : Bytes file → (plan file work table).number ≡ 0 → ShowsStates file states (plan_states file work table states).report
    states-shown bytes z =
        let (T, e) = answers-table file work table z in
        let (f, read, planned) = after-got (read_file file) plan_table T e in
        let ok = readable file bytes f read in
        rw (states-reported file work table states room z, report-of f T file read planned) (shows-states f T states ok (from-file f ok T planned) file read)
