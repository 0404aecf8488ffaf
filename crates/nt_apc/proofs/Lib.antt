pub mod ListLemmas
pub mod ListingLemmas
pub mod QueueLemmas
pub mod SoundLemmas
pub mod ViewLemmas
pub mod LikeLemmas
