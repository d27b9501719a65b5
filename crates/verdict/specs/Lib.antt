-- What is found of a table, and how a lent buffer holds a list.
pub mod Found
pub mod Buffer
