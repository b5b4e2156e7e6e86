pub mod NameTable
pub mod Symbols
pub mod SymbolSplits
pub mod Refused
