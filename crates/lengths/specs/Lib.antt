-- The search over lengths (Searching: what it asks and gives), and its steps. Assumes nothing.
pub mod Searching
pub mod Steps
pub mod Starting
