pub mod Lasting
pub mod Renewals
pub mod Laws
