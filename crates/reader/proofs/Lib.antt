-- `Lines`, `Gathering`: what the functions of the file cite.
pub mod Lines
pub mod Gathering
-- `Only`: an answer that is right is the computed one. `Found`: each file has a right answer.
-- `Accepted`: the accepted files are those of the grammar.
pub mod Only
pub mod Found
pub mod Accepted
-- `Valid`: number 17 lets each table by. `RowLines` and `Files`: the file of a table value that it
-- lets by, with its names by `PlainNames`, and any lines that are rows. `Sizes`: a file's table has
-- the sizes of a table value. `Allowed`: what it lets by, clause by clause. `Witness`: each such
-- value is some file's, sets apart, with its lines by `PlainRows`.
pub mod Valid
pub mod PlainNames
pub mod RowLines
pub mod Files
pub mod Sizes
pub mod Allowed
pub mod PlainRows
pub mod Witness
-- Defaults: the derived default of a table.
pub mod Defaults
