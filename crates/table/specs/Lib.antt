-- Table values and number 17. Read `Limits`, `Row`, `Name`, `Valid`, then `Refusal`.
pub mod Limits
pub mod Row
pub mod Name
pub mod Valid
pub mod Refusal
pub mod Further
pub mod Inner
