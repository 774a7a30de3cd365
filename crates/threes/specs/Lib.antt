-- The base-three numbers of sets of eight places (Threes), and the constant table of them (Table). Assumes nothing.
pub mod Threes
pub mod Table
