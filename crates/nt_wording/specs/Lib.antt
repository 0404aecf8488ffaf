pub mod Answers
pub mod Names
pub mod Waits
pub mod Verdicts
