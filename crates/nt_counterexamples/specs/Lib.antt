pub mod Lock
pub mod Parking
pub mod Runs
pub mod Word
