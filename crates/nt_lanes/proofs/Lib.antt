pub mod Bare
pub mod Adding
