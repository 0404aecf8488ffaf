mod Times
mod Spares
mod Renewed
mod Limits
mod Calls
mod Taken
mod Choosing
pub mod Turning
mod Pacing
mod Looking
mod Stacking
mod Whole
mod Aside
mod Gathering
pub mod Once
pub mod Telling
pub mod Returning
