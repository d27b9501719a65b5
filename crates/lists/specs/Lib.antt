-- Lists of numbers: how much room the lent scratch has, and the longest index that is of use.
pub mod Room
pub mod Inner
