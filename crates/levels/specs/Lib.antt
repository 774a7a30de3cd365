-- The rounding of a level on its two bytes. Assumes nothing.
pub mod Levels
