pub mod Takes
pub mod Laws
pub mod Lives
pub mod Since
