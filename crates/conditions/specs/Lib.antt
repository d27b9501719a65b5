-- Conditions: `Condition` (the grammar), `Depth` and `Judge` say what is right.
pub mod Condition
pub mod Depth
pub mod Judge
pub mod Inner
