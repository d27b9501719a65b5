-- `Gathering` serves the function's proof; `Laws`: some rows of a table.
pub mod Gathering
pub mod Laws
