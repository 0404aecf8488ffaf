pub mod Entries
pub mod Journals
pub mod Packed
pub mod Words
pub mod Knowledge
pub mod Views
pub mod Rule
pub mod Seats
