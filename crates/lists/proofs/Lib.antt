-- `Numbers` has the laws for callers.
pub mod Numbers
