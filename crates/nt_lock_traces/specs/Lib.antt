pub mod LockMoves
pub mod LockNames
pub mod LockTrace
