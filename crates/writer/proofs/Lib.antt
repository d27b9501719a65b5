-- `Turns`: what a loop puts at each turn. `Answers`: which answer of `write` comes when.
pub mod Turns
pub mod Answers
