-- The definitions (Sets) and the laws of sets, each module after those it cites. Assumes nothing.
pub mod Sets
pub mod Tests
pub mod Digits
pub mod Membership
pub mod Bounds
pub mod Inclusion
pub mod Order
pub mod FallingSubsets
pub mod OneMember
pub mod Lowest
pub mod Members
pub mod Rest
pub mod Size
