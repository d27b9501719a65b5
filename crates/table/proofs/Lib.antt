-- Laws of names and of table values.
pub mod Laws
