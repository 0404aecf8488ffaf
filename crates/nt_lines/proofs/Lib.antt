pub mod Pieces
pub mod Splitting
pub mod Numbers
pub mod Names
pub mod Places
