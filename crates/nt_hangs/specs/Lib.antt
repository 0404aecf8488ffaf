pub mod Inputs
pub mod Watching
pub mod Taking
pub mod Steps
pub mod Reports
pub mod Ending
pub mod Absent
