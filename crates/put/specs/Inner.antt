-- What need not be believed: it only follows the code, or is tied by theorems to what is.
pub mod Page
pub mod Puts
