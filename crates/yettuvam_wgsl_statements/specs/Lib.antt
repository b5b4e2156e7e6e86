pub mod Selectors
pub mod Simple
pub mod StatementRows
