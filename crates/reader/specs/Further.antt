-- What only the further promises speak of.
pub mod Allowed
pub mod Witness
