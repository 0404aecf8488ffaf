pub mod LockPlaces
pub mod LockSteps
pub mod Locking
pub mod ParkingKept
pub mod ParkingPlaces
pub mod ParkingSteps
pub mod Putting
pub mod Telling
