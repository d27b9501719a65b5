-- The lines that reports share.
pub mod Line
