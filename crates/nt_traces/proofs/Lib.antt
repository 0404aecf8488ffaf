pub mod Cutting
pub mod Telling
pub mod WordCounts
pub mod WordKinds
pub mod WordSeats
