-- A row's line: `Row` says which lines are rows, and which number another line gets.
pub mod Row
pub mod Inner
