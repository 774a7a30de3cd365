-- What stands on definitions of specs/ that must-fail edits turn, in modules named as the definitions' are, each after those it cites.
-- Assumes nothing.
pub mod Holding
pub mod FieldByField
