pub mod TemplateRows
pub mod Templates
pub mod Types
