pub mod DeclarationRows
pub mod Declarations
