pub mod Line
pub mod Parts
pub mod Reader
pub mod Groups
pub mod LinesRows
