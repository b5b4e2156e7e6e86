pub mod LocalFacts
pub mod Places
pub mod Spans
pub mod Takes
pub mod Turns
