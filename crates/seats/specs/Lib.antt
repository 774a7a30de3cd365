-- The places of a file's jobs and the tables of places, as the code makes them. Each module after those it cites. Assumes nothing.
pub mod Gather
pub mod Order
pub mod Bytes
pub mod Words
pub mod Carry
pub mod Rows
pub mod Give
pub mod Links
pub mod Enter
pub mod Due
pub mod Filled
pub mod Slots
pub mod OfFile
