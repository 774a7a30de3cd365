-- The bytes that the writer puts (Written), and its laws, each module after those it cites. Assumes nothing.
pub mod Written
pub mod RowLaws
pub mod TableLaws
