-- Definitions: the code of slots (Codes), peeling (Peels), what callers see of the order (Ordered). Laws: what a code has gathered (Gathered),
-- arrays (Arrays), takers peeled one after the other (Ready), an order with each giver first (Sorted), the invariant of peeling (Peeling), its
-- start and its end (Ends), the count of the givers (Counted), the tails (Tails), the least makespan (Least). Assumes nothing.
pub mod Codes
pub mod Gathered
pub mod Peels
pub mod Arrays
pub mod Ready
pub mod Ordered
pub mod Sorted
pub mod Peeling
pub mod Ends
pub mod Counted
pub mod Tails
pub mod Least
