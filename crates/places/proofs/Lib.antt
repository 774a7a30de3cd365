-- What stands on definitions of specs/ that must-fail edits turn, in modules named as the definitions' are, each after those it cites.
-- Assumes nothing.
pub mod Rows
pub mod Slot
pub mod OneSet
pub mod Memo
pub mod Assign
pub mod Work
pub mod Branching
