-- A table written as a file.
pub mod File
pub mod Inner
