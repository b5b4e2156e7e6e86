pub mod Globals
pub mod GlobalsRows
