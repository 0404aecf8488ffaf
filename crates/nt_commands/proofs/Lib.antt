pub mod Flushed
pub mod Looks
pub mod Faults
pub mod Scripts
pub mod CommandLines
pub mod Matches
pub mod Saying
pub mod Counts
