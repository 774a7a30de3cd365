-- The definitions (Marks) and the laws of the bitmap. Assumes nothing.
pub mod Marks
pub mod Laws
