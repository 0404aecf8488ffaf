pub mod Hangs
pub mod Hanging
pub mod Deciding
pub mod Orders
