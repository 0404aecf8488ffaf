pub mod Ready
pub mod Tries
