-- What check, lookup and name give (Entries), and their laws, each module after those it cites.
pub mod Entries
pub mod Lookup
pub mod Cells
pub mod Names
pub mod Finding
pub mod Checking
