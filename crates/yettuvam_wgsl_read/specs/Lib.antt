pub mod ReadRows
pub mod Reading
