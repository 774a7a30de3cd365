-- What a run over a list says of a test. Assumes nothing.
pub mod Runs
