pub mod AttributeRows
pub mod Fault
pub mod Marks
pub mod Refused
pub mod Rules
pub mod Testing
pub mod Words
