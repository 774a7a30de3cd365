-- The search over places finds the shortest start list that a file allows, and of those the preferred one. Each module after those it cites. Assumes nothing.
pub mod Given
pub mod InSlot
pub mod Tried
pub mod Starts
pub mod Find
pub mod Path
pub mod SearchIsBest
pub mod OfFile
