pub mod Plans
pub mod Doors
pub mod Counts
pub mod Reports
