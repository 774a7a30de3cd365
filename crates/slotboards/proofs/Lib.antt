-- Lemmas on what the library's calls give, for the proofs of this crate. Assumes nothing.
pub mod Firsts
