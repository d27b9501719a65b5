-- What only the further promises speak of.
pub mod Trace
pub mod Lists
