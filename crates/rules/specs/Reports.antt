-- A call with the planner's input and one buffer more, which gets a report on the table (document 02, request 11: "a call like CR 2's"). Assumes nothing.
use Rattle.std.specs.Prelude.{List, ◌++◌, ℕ, length, drop, leb, eqb}
use Rattle.rules.specs.Basics.{choose}
use Rattle.rules.specs.Fields.{Answer, refused, got, after}
use Rattle.rules.specs.JobFile.{JobFile, read_file}
use Rattle.rules.specs.Table.{Table}
use Rattle.rules.specs.Answers.{Outcome, plan_table, plan}

-- what the call answers and leaves: the planner's answer with both buffers, and every byte of the report's
pub record Reported : Type 0 where
  pub outcome : Outcome
  pub report : List ℕ

-- the report on the planner's table for a job file, or the refusal
unfoldable pub report_on : (JobFile → Table → List ℕ) → List ℕ → Answer (List ℕ)
report_on bytes file = after (read_file file) (λ f. after (plan_table f) (λ T. got (bytes f T)))

-- a refusal leaves the report's buffer as it was; bytes behind the report are untouched
unfoldable pub reported : Answer (List ℕ) → List ℕ → List ℕ
reported (refused q) buffer = buffer
reported (got bs) buffer = bs ++ drop (length bs) buffer

-- "A call with the planner's input plans the file, leaves the buffers as the planner does, and gives its refusal or" the report (document 02, request 2). Has
-- the report's buffer so much room? (1, and nothing is touched); then the planner's questions
unfoldable pub plan_report : ℕ → (JobFile → Table → List ℕ) → List ℕ → List ℕ → List ℕ → List ℕ → Reported
plan_report room bytes file work table buffer =
    let o = plan file work table in
    choose (leb room (length buffer))
    (record { outcome = o; report = choose (eqb o.number 0) (reported (report_on bytes file) buffer) buffer })
    (record { outcome = record { number = 1; size = 0; table = table; work = work }; report = buffer })
