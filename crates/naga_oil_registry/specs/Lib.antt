-- The definitions that the contracts of this crate cite.
pub mod Report
pub mod ReportView
pub mod Added
pub mod Registered
pub mod DescribedView
pub mod Descriptor
pub mod Merged
pub mod Registry
pub mod RegistryRows
pub mod RegistryView
pub mod Sanitized
pub mod Keywords
pub mod KeywordsView
