pub mod Sleepers
