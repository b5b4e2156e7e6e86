pub mod Nothing
pub mod Results
