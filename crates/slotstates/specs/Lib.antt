-- The ranks of a slot's jobs and its number (Ranks), the number as a sum of two entries (Entries), and the bytes of all slots (Slots).
pub mod Ranks
pub mod Entries
pub mod Slots
