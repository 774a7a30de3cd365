-- What stands on definitions of specs/ that must-fail edits turn, in modules named as the definitions' are, each after those it cites.
-- Assumes nothing.
pub mod Exchange
pub mod Fill
pub mod Tests
pub mod Maximal
pub mod Exact
pub mod Room
pub mod Plan
pub mod Paper
