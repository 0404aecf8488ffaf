pub mod Firsts
pub mod Counting
pub mod Accepted
pub mod Planned
