-- `Turns`: what a loop puts at each turn. `Lengths`: how long the lines of a run's totals are.
-- `Injective`: different totals give different texts.
pub mod Turns
pub mod Lengths
pub mod Injective
