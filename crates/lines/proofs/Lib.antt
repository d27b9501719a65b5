-- `Turns`: what a loop puts at each turn. `Lengths`: how long lines are. `Listing`: the numbers of
-- listed rows. `Injective`: lines of different numbers and letters are different.
pub mod Turns
pub mod Lengths
pub mod Listing
pub mod Injective
