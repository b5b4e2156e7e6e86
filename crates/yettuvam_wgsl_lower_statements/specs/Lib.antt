pub mod Naming
pub mod StatementRows
pub mod Statements
pub mod Switches
