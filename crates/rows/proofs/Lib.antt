-- `RowLaws`: what the functions of a row cite. `Fields`, `Rules`: fields and lines as they are
-- described, against what is computed of them.
pub mod RowLaws
pub mod Fields
pub mod Rules
