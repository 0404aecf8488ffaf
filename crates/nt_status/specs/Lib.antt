pub mod Access
pub mod Flags
pub mod Moment
pub mod Refusal
pub mod Status
