mod Unique
pub mod OneWay
mod Takes
mod Acting
mod Turns
mod Giving
mod Owing
mod Setting
mod Lasting
pub mod CallKinds
pub mod Numbers
mod Standing
mod Keepers
mod Staging
mod Choosing
mod GivenAgain
mod Lifelong
mod Counting
mod GivingSince
mod OwingSince
mod SettingSince
mod Following
mod RunsAsLives
mod Combining
