-- `Writing`: a table that is to be written, and how long what is printed can be. `ReportLength`,
-- `TotalsLength`: how long a report and totals can be.
pub mod ReportLength
pub mod TotalsLength
pub mod Writing
