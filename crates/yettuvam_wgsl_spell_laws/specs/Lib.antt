pub mod Meant
pub mod Apart
pub mod Brackets
pub mod Written
pub mod Laws
pub mod MeantRows
mod ReadRows
mod WrittenRows
