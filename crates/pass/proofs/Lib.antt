-- `Records`: the record and its list of phases. `Starts`: the record before the first tick, and
-- the numbers of answers. `Passes`: a pass over the rows gives the answer of `specs/Answer.antt`.
pub mod Records
pub mod Starts
pub mod Passes
