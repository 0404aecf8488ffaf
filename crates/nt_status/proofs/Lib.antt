pub mod Known
pub mod Lists
