-- `Lengths`: how long a report is. `Injective`: different findings give different reports.
pub mod Lengths
pub mod Injective
