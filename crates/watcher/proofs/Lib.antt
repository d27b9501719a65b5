-- `Counting`: how often each event happens. `Tables`: the answers for a table value.
pub mod Counting
pub mod Tables
