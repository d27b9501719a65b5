pub mod Watching
pub mod Searching
pub mod Reporting
pub mod Loading
pub mod Writing
pub mod Examples
pub mod Further
pub mod Inner
