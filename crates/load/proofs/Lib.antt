-- `Letters`: the numbers and letters of a load. `RowTotals`: a row's totals, tick by tick, and
-- those of all rows. `Summing`: their sums. `Running`: what holds while a load is run. `Runs`: what
-- a run gives.
pub mod Letters
pub mod RowTotals
pub mod Summing
pub mod Running
pub mod Runs
