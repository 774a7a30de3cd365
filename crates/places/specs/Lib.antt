-- Sets of places of one slot, one place for each window: the tables of a file and the search over them. Each module after those it cites. Assumes nothing.
pub mod Seats
pub mod Windows
pub mod Tables
pub mod Rows
pub mod Slot
pub mod Model
pub mod Building
pub mod Fit
pub mod Memo
pub mod Steps
pub mod Assign
pub mod OfFile
pub mod Work
