-- Every small gate (document 02, request 14): all sets of needs of n jobs without a circle, as numbers; the job file of each; the fewest slots of each.
-- Jobs are counted from 0 here. Assumes nothing.
use Rattle.std.specs.Prelude.{Bool, List, [], ◌∷◌, ◌++◌, map, ℕ, suc, ◌+◌, ◌*◌, ◌^◌, ◌/◌, ◌%◌, min, eqb}
use Rattle.std.proofs.Math.Option.{Option, none, some}
use Rattle.rules.specs.Basics.{filter, range, joined}
use Rattle.rules.specs.Fields.{Answer, refused, got, after, field}
use Rattle.rules.specs.Needs.{Need, circle_free}
use Rattle.rules.specs.JobFile.{read_file}
use Rattle.rules.specs.Program.{slots, keptb}
use Rattle.rules.specs.Preference.{start_lists}
use Rattle.rules.specs.Table.{Table}
use Rattle.rules.specs.Answers.{plan_table}

-- ---- sets of needs as numbers

-- bit j of m, "counted from 0 at the low end", is set
unfoldable pub bit : ℕ → ℕ → Bool
bit m j = eqb (m / 2 ^ j % 2) 1

-- "bit (giver - 1) × n + (taker - 1)"; the numbers from 1 stand only in a file
unfoldable pub need_bit : ℕ → Need → ℕ
need_bit n d = d.0 * n + d.1

-- every giver and taker of n jobs, in rising order of their bit
unfoldable pub pairs : ℕ → List Need
pairs n = map (λ j. (j / n, j % n)) (range (n * n) 0)

-- the needs of n jobs that m stands for: its bit "is set for each need"
unfoldable pub needs_of : ℕ → ℕ → List Need
needs_of n m = filter (λ d. bit m (need_bit n d)) (pairs n)

-- ---- "all files .. without a circle, as sets of needs"

-- m stands for needs of n jobs without a circle; a job that needs itself is one
unfoldable pub gateb : ℕ → ℕ → Bool
gateb n m = circle_free n (needs_of n m)

-- the numbers of all such sets, in rising order: a set of needs of n jobs has n * n bits
unfoldable pub gates : ℕ → List ℕ
gates n = filter (gateb n) (range (2 ^ (n * n)) 0)

-- ---- the job file of a number

-- job i: level 0, and one byte for its name, `a` for the first
unfoldable pub job_field : ℕ → List ℕ
job_field i = field 3 (0 ∷ 0 ∷ (97 + i) ∷ [])

-- a need, with the numbers that its jobs have in a file
unfoldable pub need_field : Need → List ℕ
need_field d = field 4 (suc d.0 ∷ suc d.1 ∷ [])

-- header, limit n, the jobs, the needs
unfoldable pub gate_file : ℕ → ℕ → List ℕ
gate_file n m = field 1 (1 ∷ []) ++ (field 2 (n ∷ []) ++ (joined job_field (range n 0) ++ joined need_field (needs_of n m)))

-- ---- "the fewest slots found by trying every start list with starts below n"

-- the smaller of x and a number that may be there
unfoldable pub smaller : ℕ → Option ℕ → ℕ
smaller x none = x
smaller x (some y) = min x y

unfoldable pub least_of : List ℕ → Option ℕ
least_of [] = none
least_of (x ∷ xs) = some (smaller x (least_of xs))

unfoldable pub fewest : ℕ → List Need → Option ℕ
fewest n needs = least_of (map slots (filter (keptb needs) (start_lists n n)))

-- ---- "the planner with limit n must give the same"

-- the slots of a table, none of a refusal
unfoldable pub slots_in : Answer Table → Option ℕ
slots_in (refused q) = none
slots_in (got T) = some T.slots

-- those of the planner's table for a job file
unfoldable pub planned_slots : List ℕ → Option ℕ
planned_slots file = slots_in (after (read_file file) plan_table)

-- ---- what is printed

-- "jobs, that number and the fewest slots"
pub record GateLine : Type 0 where
  pub jobs : ℕ
  pub number : ℕ
  pub fewest-slots : Option ℕ

-- that of the needs of n jobs that m stands for
abbrev pub gate_line : ℕ → ℕ → GateLine
gate_line n m = record { jobs = n; number = m; fewest-slots = fewest n (needs_of n m) }

-- a line for each set of needs of n jobs without a circle
unfoldable pub gate_lines : ℕ → List GateLine
gate_lines n = map (gate_line n) (gates n)

-- a number that may be there; 0 for none
unfoldable pub or_zero : Option ℕ → ℕ
or_zero none = 0
or_zero (some x) = x

-- the three numbers of a line
unfoldable pub line_numbers : GateLine → List ℕ
line_numbers l = l.jobs ∷ l.number ∷ or_zero l.fewest-slots ∷ []

-- "all files of 1 to 4 jobs", "by jobs n, then by the number"
unfoldable pub small_gates : List GateLine
small_gates = gate_lines 1 ++ (gate_lines 2 ++ (gate_lines 3 ++ gate_lines 4))
