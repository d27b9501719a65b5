-- Document 01's worked cases and texts. They show what the definitions mean; no promise on all
-- tables speaks of them.
pub mod Cases
pub mod Texts
pub mod Loads
pub mod Written
