pub mod BitLemmas
pub mod LevelLemmas
pub mod FewLemmas
pub mod Counting
