-- The totals of a run as text.
pub mod Totals
