-- Traces over any system: no row of a table is named here.
pub mod System
pub mod Trace
pub mod Order
pub mod Doomed
pub mod Count
pub mod Inner
