pub mod Assignments
pub mod Calls
pub mod Declarations
pub mod Statements
pub mod StatementsRows
