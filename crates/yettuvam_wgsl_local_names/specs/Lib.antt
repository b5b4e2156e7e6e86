pub mod LocalNames
pub mod LocalNamesRows
