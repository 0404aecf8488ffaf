pub mod Ending
pub mod CommandLine
pub mod Command
pub mod Telling
