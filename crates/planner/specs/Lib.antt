-- What the planner gives (Planner), question by question (Asked), and the table of the plan that it finds (Seated, Tabled). Assumes nothing.
pub mod Planner
pub mod Seated
pub mod Tabled
pub mod Asked
