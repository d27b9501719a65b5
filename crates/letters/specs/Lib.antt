-- Definitions on letters and sets of letters, and the tests of numbers and lists that
-- the definitions above them use.
pub mod Lists
pub mod Letter
pub mod Sets
pub mod Inner
pub mod Further
