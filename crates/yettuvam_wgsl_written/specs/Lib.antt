pub mod Attributes
pub mod Codes
pub mod Operators
pub mod Outcomes
pub mod Written
pub mod WrittenRows
