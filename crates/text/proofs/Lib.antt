-- Splits: `split`, `front`, `after` and `count`, of each other and in the library's words.
pub mod Splits
-- Parts: parts of a slice, as the logic has them, and as the definitions do.
pub mod Parts
-- Joins: lines and pieces put together again.
pub mod Joins
-- Decimals: numbers in base ten.
pub mod Decimals
-- Bounds: `bound_of` finds the bounds, and no others.
pub mod Bounds
