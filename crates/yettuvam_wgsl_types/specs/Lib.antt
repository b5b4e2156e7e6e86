pub mod SameRow
pub mod Types
pub mod TypeRows
