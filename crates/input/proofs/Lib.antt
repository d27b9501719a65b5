-- Laws on what is read.
pub mod Pieces
