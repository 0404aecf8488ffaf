pub mod Inbox
pub mod Place
pub mod Queues
