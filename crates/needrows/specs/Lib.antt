-- The definitions (Rows) and the laws of rows of needs: of a word (Words), of the takers (Takers), and of rows that are changed (Laws). Assumes nothing.
pub mod Rows
pub mod Words
pub mod Takers
pub mod Laws
