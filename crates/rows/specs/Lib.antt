-- The rows of a table: what the reader gives (Rows), the ways out of a row (RowWays), the reading row by row (RowByRow), and its answers (Reader).
pub mod Rows
pub mod RowWays
pub mod RowByRow
pub mod Reader
