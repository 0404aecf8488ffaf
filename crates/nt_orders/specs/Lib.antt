pub mod Texts
pub mod Plans
pub mod Reading
pub mod Progress
pub mod Ending
