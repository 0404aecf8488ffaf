pub mod Visits
pub mod Dispatcher
pub mod Due
pub mod Lawful
pub mod Accepts
