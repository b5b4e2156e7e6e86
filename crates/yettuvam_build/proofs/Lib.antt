pub mod BuiltLemmas
pub mod FileLemmas
pub mod GivenLemmas
pub mod WordLemmas
