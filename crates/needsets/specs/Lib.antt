-- Sets of needs as numbers: what the functions give, and that it is what the rules say.
pub mod Sizes
pub mod Marks
pub mod MarkLaws
pub mod Starts
pub mod StartLaws
pub mod FewestLaws
pub mod Files
pub mod FileLaws
