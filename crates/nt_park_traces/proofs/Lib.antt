pub mod ParkCounts
pub mod ParkKinds
pub mod ParkSeats
