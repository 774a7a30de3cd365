-- The numbers of the refusals. Assumes nothing.
pub mod Refusals
