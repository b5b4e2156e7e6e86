pub mod BodyReaderLemmas
pub mod OrderLemmas
pub mod WriterLemmas
