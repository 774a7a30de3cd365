-- The definitions of the reader (Reading), and its laws, each module after those it cites. Assumes nothing.
pub mod Reading
pub mod Values
pub mod NeedWays
pub mod FieldByField
pub mod Whole
