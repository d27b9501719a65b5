-- What only the further promises speak of, those that stand by subject beside `Demands`.
pub mod Doomed
pub mod Program
pub mod Load
pub mod Canonical
