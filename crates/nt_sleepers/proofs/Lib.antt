pub mod Waking
pub mod Kept
pub mod Counts
pub mod Staying
pub mod Deadlines
mod Renewing
