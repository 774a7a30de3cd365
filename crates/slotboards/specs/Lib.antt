-- The placing as the code does it (Placing), and that it gives the boards of the rules. Assumes nothing.
pub mod Placing
pub mod Left
pub mod Near
pub mod Moves
pub mod SlotLaws
pub mod PlacingLaws
pub mod Turns
pub mod Rows
pub mod Paths
pub mod RowsLaws
