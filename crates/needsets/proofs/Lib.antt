-- The digits of an index, written one after the other (Digits), and what a run over a range says of a test (Runs). Assumes nothing.
pub mod Digits
pub mod Runs
