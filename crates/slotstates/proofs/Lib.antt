-- The turns of the loop over the jobs. Assumes nothing.
pub mod Jobs
