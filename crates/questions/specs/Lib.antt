-- Questions 15 to 18 as the code asks them (Questions), their laws, and what the loops over rows need.
pub mod Questions
pub mod QuestionLaws
pub mod Loops
