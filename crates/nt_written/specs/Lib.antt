pub mod Written
pub mod Writing
