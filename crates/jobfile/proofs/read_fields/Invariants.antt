use Rattle.std.proofs.Common.{◌≡◌, ◌-◌, length}
use Rattle.jobfile.specs.FieldByField.{ReadTo}
use Rattle.jobfile.proofs.read_fields.Given as goal

-- the fields before `at` are read into counts, offsets and rows
abbrev pub invariant-loop-at : goal.invariant-loop-at
invariant-loop-at l = ReadTo l.file l.c l.offsets l.rows l.at × (length l.rows ≡ length l.initial.rows)

-- what is left of the file
abbrev pub decreases-loop-at : goal.decreases-loop-at
decreases-loop-at l = length l.file - l.at
