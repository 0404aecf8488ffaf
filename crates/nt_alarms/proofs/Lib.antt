pub mod HeapLemmas
