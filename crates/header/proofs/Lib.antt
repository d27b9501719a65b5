-- `Shapes`: lines 1 and 2 as they are described, against the tests. `HeaderLaws`, `SignalLaws`:
-- what the functions of line 1, of names and of line 2 cite.
pub mod Shapes
pub mod HeaderLaws
pub mod SignalLaws
