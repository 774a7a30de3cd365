-- The depth-first search over sets of places: what its functions give (Entries, Sorting, Choosing, Search), the laws
-- that carry it to the model of crate places (Steps, States). Assumes nothing.
pub mod Entries
pub mod Sorting
pub mod Choosing
pub mod Search
pub mod Steps
pub mod States
