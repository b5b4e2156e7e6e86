pub mod AttributeRows
pub mod Attributes
pub mod Declarations
pub mod Words
