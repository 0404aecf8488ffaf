pub mod Transcript
pub mod Progress
pub mod Running
pub mod Laws
pub mod Message
