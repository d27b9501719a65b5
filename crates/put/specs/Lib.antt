-- Bytes put into a lent buffer. Nothing here has to be believed.
pub mod Inner
