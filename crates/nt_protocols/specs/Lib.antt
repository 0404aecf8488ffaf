pub mod Lock
pub mod Parking
pub mod Threads
pub mod Word
