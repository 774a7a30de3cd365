-- What an answer of the planner leaves in both buffers: how many bytes are written. Assumes nothing.
use Rattle.std.specs.Prelude.{ℕ, Bool, List, cond, ◌==◌, Result, Ok, Err}
use Rattle.std.specs.List.{list_all}

-- is each byte this one?
abbrev pub each : ℕ → List ℕ → Bool
each value bytes = list_all (λ b. b == value) bytes

-- the bytes of the working buffer that are zero: none where a buffer is too short (question 1)
abbrev pub zeros : Result ℕ ℕ → ℕ
zeros (Ok size) = 65536
zeros (Err question) = cond (question == 1) 0 65536

-- the bytes of the table buffer that are a table
abbrev pub written : Result ℕ ℕ → ℕ
written (Ok size) = size
written (Err question) = 0
