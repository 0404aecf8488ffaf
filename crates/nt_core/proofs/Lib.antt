pub mod Lengths
mod Moments
mod Coming
mod Counting
mod Moves
pub mod Runs
pub mod Lawful
mod Renewing
pub mod Renumbering
pub mod SettingAside
mod Lengthening
pub mod LikeLemmas
pub mod OwnersKnown
