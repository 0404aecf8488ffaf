pub mod Counting
pub mod ListLemmas
pub mod ChainLemmas
pub mod SoundLemmas
pub mod PassLemmas
pub mod AbandonLemmas
pub mod KeptLemmas
