-- The report.
pub mod Report
pub mod Further
