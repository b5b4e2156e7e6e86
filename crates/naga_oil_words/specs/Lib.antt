pub mod Bytes
pub mod Marks
pub mod OptionSteps
pub mod ResultSteps
pub mod Texts
