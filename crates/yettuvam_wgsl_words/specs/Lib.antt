pub mod Class
pub mod Number
pub mod Cut
pub mod Scan
