-- What only the further promises speak of.
pub mod Among
pub mod Codes
pub mod Happened
pub mod Pressed
