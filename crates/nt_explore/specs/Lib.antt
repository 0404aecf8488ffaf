pub mod Search
pub mod Walk
pub mod Levels
pub mod Hash
