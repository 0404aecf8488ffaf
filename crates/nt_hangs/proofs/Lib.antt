pub mod Taking
pub mod Seeing
pub mod Telling
pub mod Marking
