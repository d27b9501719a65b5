-- Some rows of a table, as a table of their own.
pub mod Subtable
