pub mod Balance
pub mod Turns
pub mod Rows
pub mod Run
pub mod Numbers
mod BalanceRows
