mod Taking
mod Orders
pub mod Keeping
pub mod Walks
pub mod Standings
mod Stopping
pub mod Visiting
pub mod Changing
pub mod Accepting
pub mod Replacing
mod Running
mod Queueing
pub mod Beginning
pub mod Handling
pub mod Remaining
pub mod Alerting
pub mod Listing
mod Leaving
mod Exchanging
pub mod Exiting
mod Ending
pub mod Ticking
mod Timing
mod Swapping
mod Arming
pub mod Passing
pub mod Rousing
pub mod Places
pub mod Judging
pub mod Making
mod Owned
pub mod Lives
pub mod Marking
mod LettingGo
pub mod Settling
mod Gone
mod Ended
mod Closing
