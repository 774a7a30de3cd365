-- Lemmas on what the library's calls give and write, for the proofs of this crate. Assumes nothing.
pub mod Parts
pub mod Free
