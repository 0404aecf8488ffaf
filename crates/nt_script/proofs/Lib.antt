pub mod Texts
pub mod Lines
pub mod Opening
pub mod Carrying
pub mod Running
pub mod Failures
pub mod OneWay
