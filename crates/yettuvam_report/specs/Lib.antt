pub mod Line
pub mod LineRows
pub mod Report
pub mod ReportRows
