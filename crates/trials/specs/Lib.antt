-- What an answer of the planner leaves in both buffers. Assumes nothing.
pub mod Buffers
