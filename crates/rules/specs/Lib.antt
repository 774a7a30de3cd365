-- The rules of documents 01 and 02, as definitions alone, a file for each subject.
pub mod Sizes
pub mod Basics
pub mod Numbers
pub mod Fields
pub mod Needs
pub mod JobFile
pub mod Program
pub mod Windows
pub mod Preference
pub mod Boards
pub mod Table
pub mod Answers
pub mod Reports
pub mod States
pub mod Implied
pub mod SmallGates
