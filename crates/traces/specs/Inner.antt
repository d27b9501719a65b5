-- What need not be believed: it only follows the code, or is tied by theorems to what is.
pub mod Marks
pub mod Matching
pub mod Numbers
pub mod Explore
pub mod Least
pub mod Entries
pub mod Keyed
pub mod NoPlace
pub mod Passing
pub mod Judgement
pub mod Lists
pub mod Survival
pub mod Verdicts
pub mod Lawful
