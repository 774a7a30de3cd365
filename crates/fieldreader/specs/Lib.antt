-- The definitions of the field reader (Reader), its ways out (FieldWays), and what its answer says of the file (FieldFound). Assumes nothing.
pub mod Reader
pub mod FieldWays
pub mod FieldFound
