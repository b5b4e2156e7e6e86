pub mod OverwriteLemmas
pub mod WordLemmas
pub mod ListingLemmas
pub mod ProgramLemmas
pub mod ReportLemmas
pub mod MadeLemmas
pub mod GivenLemmas
