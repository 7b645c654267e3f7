pub mod SearchState
pub mod Hidden
pub mod Answers
