mod Parts
mod Allowing
mod Waiting
mod Passing
mod Standstill
mod Holding
mod Calling
mod Tied
mod Knots
mod Deciding
mod Loosening
pub mod Searching
