-- Laws of the step rules.
pub mod Codes
pub mod States
pub mod Rows
pub mod Systems
pub mod Among
pub mod Pressed
pub mod RowEvents
pub mod Marks
pub mod Happened
pub mod Restarts
pub mod Firing
