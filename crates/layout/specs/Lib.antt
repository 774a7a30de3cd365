-- The tables of places in one array. Assumes nothing.
pub mod Layout
