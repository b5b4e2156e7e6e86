pub mod Results
pub mod Texts
pub mod Types
pub mod TypesRows
