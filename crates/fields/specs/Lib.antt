-- The laws of fields, and of the bytes of a name. Assumes nothing.
pub mod Fields
pub mod Names
