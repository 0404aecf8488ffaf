pub mod Paths
pub mod Branches
pub mod WhoGoesOn
pub mod Deadlines
