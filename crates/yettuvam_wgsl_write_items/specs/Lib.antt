pub mod Items
pub mod ItemsRows
pub mod Signatures
pub mod Text
