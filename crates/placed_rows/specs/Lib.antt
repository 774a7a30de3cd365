-- Jobs with seats: what the code makes of them (Seats), their laws (SeatsLaws), and the two instances of the program (Figure). Assumes nothing.
pub mod Seats
pub mod SeatsLaws
pub mod Figure
