pub mod LineLemmas
pub mod MarkLemmas
pub mod ReportLemmas
