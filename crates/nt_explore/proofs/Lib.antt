pub mod Losing
pub mod Walks
pub mod Ways
pub mod Levels
pub mod Counting
pub mod Hung
pub mod Slots
