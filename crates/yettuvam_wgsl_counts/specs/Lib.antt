pub mod Times
pub mod Locals
pub mod CountsRows
