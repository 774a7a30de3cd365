-- State numbers for the service screen (document 02, request 11): the state of a slot is its jobs' digits in base three. Jobs are counted from 0 here.
-- Assumes nothing.
use Rattle.std.specs.Prelude.{List, [], ◌∷◌, map, ℕ, ◌+◌, ◌*◌, length, ltb, pos, ◌-ℤ◌}
use Rattle.rules.specs.Sizes.{states_size}
use Rattle.rules.specs.Basics.{choose, at, filter, range, joined}
use Rattle.rules.specs.Numbers.{word_bytes}
use Rattle.rules.specs.Needs.{Need}
use Rattle.rules.specs.JobFile.{JobFile}
use Rattle.rules.specs.Windows.{releases, swap, holdsb}
use Rattle.rules.specs.Table.{Table, starts}
use Rattle.rules.specs.Reports.{Reported, plan_report}

-- "0 not done, 1 done in an earlier slot, 2 running now": the digit in slot s of a job that starts in slot t
unfoldable pub state_digit : ℕ → ℕ → ℕ
state_digit s t = choose (ltb s t) 0 (choose (ltb t s) 1 2)

-- "The jobs whose windows hold the slot .. are taken in rising number", of n jobs, with the limit L
unfoldable pub held_jobs : ℕ → List Need → ℕ → ℕ → List ℕ
held_jobs n needs L s =
    let r = releases n needs n in
    let b = releases n (map swap needs) n in
    filter (holdsb (at r) (λ i. pos L -ℤ pos (at b i)) s) (range n 0)

-- "each gives a digit": those of slot s by the start list t, "lowest job lowest"
unfoldable pub state_digits : ℕ → List Need → ℕ → List ℕ → ℕ → List ℕ
state_digits n needs L t s = map (λ i. state_digit s (at t i)) (held_jobs n needs L s)

-- the number with these digits "in base three", the lowest first
unfoldable pub base_three : List ℕ → ℕ
base_three [] = 0
base_three (d ∷ ds) = d + 3 * base_three ds

-- the number of slot s by the start list t
abbrev pub state_number : ℕ → List Need → ℕ → List ℕ → ℕ → ℕ
state_number n needs L t s = base_three (state_digits n needs L t s)

-- "one number for each of its slots": those of the table T of a file that says f, whose limit the windows have
unfoldable pub state_numbers : JobFile → Table → List ℕ
state_numbers f T = map (state_number (length f.jobs) f.needs f.limit (starts T)) (range T.slots 0)

-- as bytes, two for each slot
unfoldable pub state_bytes : JobFile → Table → List ℕ
state_bytes f T = joined word_bytes (state_numbers f T)

-- the call: job file, both buffers of the planner, and the buffer for the numbers
unfoldable pub plan_states : List ℕ → List ℕ → List ℕ → List ℕ → Reported
plan_states = plan_report states_size state_bytes
