-- The load.
pub mod Figures
pub mod Load
pub mod Further
pub mod Inner
