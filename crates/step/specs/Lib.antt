-- Phases and step rules.
pub mod Phase
pub mod Step
pub mod Tick
pub mod Events
pub mod Fires
pub mod Valid
pub mod Further
pub mod Inner
