-- What need not be believed: it only follows the code.
pub mod Pass
