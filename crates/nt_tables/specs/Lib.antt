pub mod Handles
pub mod Owned
pub mod Links
pub mod Objects
