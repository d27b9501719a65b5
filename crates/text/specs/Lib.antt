-- Bytes: of a text, put together from lines and pieces, and of numbers in base ten (number 14); and
-- the words of a file.
pub mod Bytes
pub mod Lines
pub mod Words
pub mod Bounds
pub mod Inner
