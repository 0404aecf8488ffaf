pub mod LockKinds
pub mod LockSeats
