pub mod Fault
pub mod FaultRows
pub mod Notes
pub mod Tables
