-- The planner's slots and the fewest, each of which may be missing. Assumes nothing.
pub mod Missing
