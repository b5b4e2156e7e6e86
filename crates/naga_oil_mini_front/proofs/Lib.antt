pub mod LineLemmas
pub mod ReaderLemmas
pub mod ValidLemmas
pub mod SliceLemmas
pub mod WithinLemmas
