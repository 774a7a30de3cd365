-- Every small gate: how many there are, what the functions give, and that it is what the rules say.
pub mod Counts
pub mod Lines
pub mod LineLaws
pub mod PlannedLaws
